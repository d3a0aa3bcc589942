-- The numbers of words that stand in the grammar by themselves.
use Rattle.std.specs.Prelude.{ℕ}
use Rattle.jx9_parse.specs.declared.keyword.Keyword.{Keyword}
use Rattle.jx9_parse.specs.declared.keyword.Keyword.TheVariants as keyword

abbrev pub keyword_code : Keyword → ℕ
keyword_code keyword.Function = 9
keyword_code keyword.Print = 21
keyword_code keyword.If = 22
keyword_code keyword.While = 23
keyword_code keyword.For = 24
keyword_code keyword.Foreach = 25
keyword_code keyword.Return = 26
keyword_code keyword.Break = 27
keyword_code keyword.Continue = 28
keyword_code keyword.As = 37
keyword_code keyword.Else = 38
keyword_code keyword.Elseif = 39
