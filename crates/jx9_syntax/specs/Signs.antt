-- How signs are spelled, and the longest sign at the front of a text.
use Rattle.std.specs.Prelude.{ℕ, ◌==◌, if◌then◌else◌, [], ◌∷◌, Option, Some, None, codes}
use Rattle.uq_value.specs.Data.{Bytes}
use Rattle.jx9_syntax.specs.declared.sign.Sign.{Sign}
use Rattle.jx9_syntax.specs.declared.sign.Sign.TheVariants.{Plus, Minus, Times, Divide, Remainder, Join, Dot, Assign, PlusAssign, MinusAssign, TimesAssign, DivideAssign, RemainderAssign, JoinAssign, Equal, NotEqual, Same, NotSame, Less, LessOrEqual, Greater, GreaterOrEqual, And, Or, Not, Increment, Decrement, Question, Colon, OpenParen, CloseParen, OpenBracket, CloseBracket, OpenBrace, CloseBrace, Comma, Semicolon}

abbrev pub spelling : Sign → Bytes
spelling Plus = codes "+"
spelling Minus = codes "-"
spelling Times = codes "*"
spelling Divide = codes "/"
spelling Remainder = codes "%"
spelling Join = codes ".."
spelling Dot = codes "."
spelling Assign = codes "="
spelling PlusAssign = codes "+="
spelling MinusAssign = codes "-="
spelling TimesAssign = codes "*="
spelling DivideAssign = codes "/="
spelling RemainderAssign = codes "%="
spelling JoinAssign = codes "..="
spelling Equal = codes "=="
spelling NotEqual = codes "!="
spelling Same = codes "==="
spelling NotSame = codes "!=="
spelling Less = codes "<"
spelling LessOrEqual = codes "<="
spelling Greater = codes ">"
spelling GreaterOrEqual = codes ">="
spelling And = codes "&&"
spelling Or = codes "||"
spelling Not = codes "!"
spelling Increment = codes "++"
spelling Decrement = codes "--"
spelling Question = codes "?"
spelling Colon = codes ":"
spelling OpenParen = codes "("
spelling CloseParen = codes ")"
spelling OpenBracket = codes "["
spelling CloseBracket = codes "]"
spelling OpenBrace = codes "{"
spelling CloseBrace = codes "}"
spelling Comma = codes ","
spelling Semicolon = codes ";"

-- the signs of one byte
abbrev pub single : ℕ → Option Sign
single b =
    if b == 0x2b then Some Plus else
    if b == 0x2d then Some Minus else
    if b == 0x2a then Some Times else
    if b == 0x2f then Some Divide else
    if b == 0x25 then Some Remainder else
    if b == 0x2e then Some Dot else
    if b == 0x3d then Some Assign else
    if b == 0x3c then Some Less else
    if b == 0x3e then Some Greater else
    if b == 0x21 then Some Not else
    if b == 0x3f then Some Question else
    if b == 0x3a then Some Colon else
    if b == 0x28 then Some OpenParen else
    if b == 0x29 then Some CloseParen else
    if b == 0x5b then Some OpenBracket else
    if b == 0x5d then Some CloseBracket else
    if b == 0x7b then Some OpenBrace else
    if b == 0x7d then Some CloseBrace else
    if b == 0x2c then Some Comma else
    if b == 0x3b then Some Semicolon else
    None

-- those of two bytes of which the second is `=`
abbrev pub with_equals : ℕ → Option Sign
with_equals b =
    if b == 0x2b then Some PlusAssign else
    if b == 0x2d then Some MinusAssign else
    if b == 0x2a then Some TimesAssign else
    if b == 0x2f then Some DivideAssign else
    if b == 0x25 then Some RemainderAssign else
    if b == 0x3d then Some Equal else
    if b == 0x21 then Some NotEqual else
    if b == 0x3c then Some LessOrEqual else
    if b == 0x3e then Some GreaterOrEqual else
    None

-- those of a byte that stands twice, but for `==`
abbrev pub doubled : ℕ → Option Sign
doubled b =
    if b == 0x2e then Some Join else
    if b == 0x26 then Some And else
    if b == 0x7c then Some Or else
    if b == 0x2b then Some Increment else
    if b == 0x2d then Some Decrement else
    None

abbrev pub pair : ℕ → ℕ → Option Sign
pair b c = if c == 0x3d then with_equals b else (if c == b then doubled b else None)

-- the sign that another one becomes by `=` behind it, where it is of two bytes
abbrev pub lengthened : Sign → Option Sign
lengthened Join = Some JoinAssign
lengthened Equal = Some Same
lengthened NotEqual = Some NotSame
lengthened _ = None

abbrev pub lengthened_by : Option Sign → ℕ → Option Sign
lengthened_by None d = None
lengthened_by (Some s) d = if d == 0x3d then lengthened s else None

abbrev pub or_else : Option (Sign × Bytes) → Option (Sign × Bytes) → Option (Sign × Bytes)
or_else (Some x) other = Some x
or_else None other = other

abbrev pub before : Option Sign → Bytes → Option (Sign × Bytes)
before None rest = None
before (Some s) rest = Some (s, rest)

abbrev pub sign_of_one : Bytes → Option (Sign × Bytes)
sign_of_one [] = None
sign_of_one (b ∷ bs) = before (single b) bs

abbrev pub sign_of_two : Bytes → Option (Sign × Bytes)
sign_of_two [] = None
sign_of_two (b ∷ []) = None
sign_of_two (b ∷ c ∷ cs) = before (pair b c) cs

abbrev pub sign_of_three : Bytes → Option (Sign × Bytes)
sign_of_three [] = None
sign_of_three (b ∷ []) = None
sign_of_three (b ∷ c ∷ []) = None
sign_of_three (b ∷ c ∷ d ∷ ds) = before (lengthened_by (pair b c) d) ds

-- the longest sign at the front, and what stands behind it
abbrev pub sign_at : Bytes → Option (Sign × Bytes)
sign_at text = or_else (sign_of_three text) (or_else (sign_of_two text) (sign_of_one text))
