-- Words of the code, as lists of bytes; and what reading them answers.
use Rattle.std.specs.Prelude.{◌≡◌, List, map, String, string_bytes, Option, Some, None, Result, Ok, Err}
use Rattle.std.specs.Global.{Global}
use Rattle.std.specs.Borrow.{Bor}
use Rattle.uq_value.specs.Data.{Bytes}
use Rattle.uq_words.specs.Options.{Asked, Numbers, named, no_numbers, order_behind, order_of_words, plain, Setting, Budget, MaxEntries, MaxBytes}
use Rattle.uq_words.specs.Lines.{Spoken, Silent, TooLong, NoWords, Says}
use Rattle.uq_words.specs.Words.{words}
use Rattle.uq_words.specs.declared.line.Line.{Line}
use Rattle.uq_words.specs.declared.line.Line.TheVariants as line
use Rattle.uq_json.specs.declared.error.JsonFault.{JsonFault}
use Rattle.uq_json.specs.declared.error.JsonFault.TheVariants as json
use Rattle.uq_words.specs.declared.error.OptionsFault.{OptionsFault}
use Rattle.uq_words.specs.declared.error.OptionsFault.TheVariants as options
use Rattle.uq_words.specs.declared.settings.Given.{Given}
use Rattle.uq_words.specs.declared.options.Name.{Name}
use Rattle.uq_words.specs.declared.options.Order.{Order}
use Rattle.uq_words.specs.declared.settings.Setting as option
use Rattle.uq_words.specs.declared.settings.Setting.TheVariants as setting
use Rattle.uq_words.specs.declared.words.Words.{Words}
use Rattle.uq_words.specs.declared.error.WordsFault.{WordsFault}
use Rattle.uq_words.specs.declared.error.WordsFault.TheVariants as fault

-- the words, in order
abbrev pub texts_of : Words → List Bytes
texts_of words = map (λ word. word.items) words.list.items

-- the words of the program, as bytes
abbrev pub texts : List (String Global) → List Bytes
texts words = map string_bytes words

-- how a fault of the string at the front of a text is one of a line
abbrev pub word_fault : JsonFault → WordsFault
word_fault json.NotJson = fault.Bad
word_fault json.TooDeep = fault.Bad
word_fault json.TooLarge = fault.Bad
word_fault json.Memory = fault.Memory

-- no word is at the front of a text; want of memory may always be the answer
abbrev pub NoWord : Option (Bytes × Bytes) → WordsFault → Type 0
NoWord front fault.Bad = front ≡ None
NoWord front fault.Memory = Unit {0}

-- the word at the front of a text, where one is there
abbrev pub SplitsWord : {A : Type 0} → (A → Bytes × Bytes) → Option (Bytes × Bytes) → Result A WordsFault → Type 0
SplitsWord view front (Ok x) = front ≡ Some (view x)
SplitsWord view front (Err why) = NoWord front why

-- a line is `Bad` exactly where it is not made of words; want of memory may always be the answer
abbrev pub AnswersWords : Bytes → Result Words WordsFault → Type 0
AnswersWords line (Ok them) = words line ≡ Some (texts_of them)
AnswersWords line (Err fault.Bad) = words line ≡ None
AnswersWords line (Err fault.Memory) = Unit {0}

-- the name of a database, as bytes
abbrev pub name_of : Name → Bytes
name_of name = string_bytes name.text

-- what the code has read of the program's words
abbrev pub asked_by : Order → Asked
asked_by order = record {
  budget = order.budget;
  max_entries = order.max_entries;
  max_bytes = order.max_bytes;
  name = name_of order.name;
  words = texts_of order.words;
}

-- this is the order, where there is one; want of memory may always be the answer
abbrev pub AnswersAsked : Option Asked → Result Order OptionsFault → Type 0
AnswersAsked asked (Ok order) = asked ≡ Some (asked_by order)
AnswersAsked asked (Err options.Usage) = asked ≡ None
AnswersAsked asked (Err options.Memory) = Unit {0}

-- `Usage` comes exactly where the words are in no form
abbrev pub AnswersOptions : List Bytes → Result Order OptionsFault → Type 0
AnswersOptions words = AnswersAsked (order_of_words words)

-- the numbers that the code has read
abbrev pub numbers_of : Given → Numbers
numbers_of given = record { budget = given.budget; max_entries = given.max_entries; max_bytes = given.max_bytes }

-- the same, behind options that gave these numbers
abbrev pub AnswersOrder : Given → List Bytes → Result Order OptionsFault → Type 0
AnswersOrder given words = AnswersAsked (named (numbers_of given) (plain words))

-- the options at the front, where they are in form
abbrev pub ReadsSettings : List Bytes → Option (Given × Bor (List (String Global))) → Type 0
ReadsSettings words None = order_behind no_numbers words ≡ None
ReadsSettings words (Some (given, rest)) = order_behind no_numbers words ≡ named (numbers_of given) (plain (texts rest.now))

-- the option, as the code has it
abbrev pub setting_as : option.Setting → Setting
setting_as setting.Budget = Budget
setting_as setting.MaxEntries = MaxEntries
setting_as setting.MaxBytes = MaxBytes

-- the words without the first `--`; want of memory may always be the answer
abbrev pub AnswersPlain : {A : Type 0} → (A → List Bytes) → List Bytes → Result A OptionsFault → Type 0
AnswersPlain view words (Ok list) = plain words ≡ Some (view list)
AnswersPlain view words (Err options.Usage) = plain words ≡ None
AnswersPlain view words (Err options.Memory) = Unit {0}

-- what the code has read of a line
abbrev pub spoken_as : Line → Spoken
spoken_as line.Silent = Silent
spoken_as line.TooLong = TooLong
spoken_as line.NoWords = NoWords
spoken_as (line.Says words) = Says (texts_of words)
