-- The options at the front of the program's words, and the limits of what they give.
use Rattle.std.proofs.Common.{◌≡◌, ℕ, ◌-◌, ◌≤◌, arith, Bool, true, false, ◌&&◌, cond, eqb, leb, List, [], ◌∷◌, length, take, drop, get_or, String, string_bytes, Global, Option, Some, None, Result, Ok, Err, refl, sym, ap, subst, ◌∙◌}
use Rattle.std.proofs.lemmas.List.{take_rest}
use Rattle.std.specs.Option.{option_map}
use Rattle.std.specs.Prelude.{IfOk}
use Rattle.uq_model.specs.declared.limits.TheConstants.{MOST_BYTES, MOST_ENTRIES}
use Rattle.uq_value.specs.Data.{Bytes}
use Rattle.uq_value.specs.Number.{unsigned}
use Rattle.uq_words.specs.Options.{Asked, Budget, MaxBytes, MaxEntries, Numbers, Setting, give, given, gives, greatest, most_budget, named, no_numbers, number, once, order_behind, order_of_words, plain, setting, value_of, with_number, with_setting, within}
use Rattle.uq_words.specs.Texts.{AnswersOptions, numbers_of, setting_as, texts}
use Rattle.uq_words.specs.declared.error.OptionsFault.{OptionsFault}
use Rattle.uq_words.specs.declared.options.Order.{Order}
use Rattle.uq_words.specs.declared.settings.Given.{Given}
use Rattle.uq_words.specs.declared.settings.Setting as code

pub order_is : (words : List Bytes) (asked : Option Asked) → order_behind no_numbers words ≡ asked → order_of_words words ≡ asked
unfolding order_of_words
order_is words asked is = is

-- ---- an option and its number

-- what an option and its number ask for, by the option
abbrev asks : Numbers → Bytes → List Bytes → Setting → Option Asked
asks numbers text words it = with_number (gives numbers it text) (λ n. order_behind (give it n numbers) words)

abbrev numbers_in : Option Numbers → Numbers
numbers_in None = no_numbers
numbers_in (Some numbers) = numbers

module _ (numbers : Numbers) (option : code.Setting) (next : Given) (word text : String Global) where
  pub takes_setting : (rest : List (String Global)) → 2 ≤ length rest → word ≡ get_or rest 0 word → text ≡ get_or rest 1 text
      → Some (setting_as option) ≡ setting (string_bytes word)
      → Some (numbers_of next) ≡ option_map (λ n. give (setting_as option) n numbers) (gives numbers (setting_as option) (string_bytes text))
      → order_behind numbers (texts rest) ≡ order_behind (numbers_of next) (texts (take (length rest - 2) (drop 2 rest)))
  takes_setting [] long is_word is_text is_option is_number = absurd (omega (arith, long))
  takes_setting (a ∷ []) long is_word is_text is_option is_number = absurd (omega (arith, long))
  takes_setting (a ∷ b ∷ cs) long is_word is_text is_option is_number =
      ap (λ (o : Option Setting). with_setting o (asks numbers (string_bytes b) (texts cs)) (named numbers (plain (texts (a ∷ b ∷ cs)))))
      (ap (λ (w : String Global). setting (string_bytes w)) (sym is_word) ∙ sym is_option)
      ∙ by (gives numbers (setting_as option) (string_bytes b))
      (is_number ∙ ap (λ (w : String Global). option_map (λ n. give (setting_as option) n numbers) (gives numbers (setting_as option) (string_bytes w))) is_text)
      ∙ ap (λ (ws : List (String Global)). order_behind (numbers_of next) (texts ws)) (sym (take_rest (a ∷ b ∷ cs) 2))
    where
      by : (found : Option ℕ) → Some (numbers_of next) ≡ option_map (λ n. give (setting_as option) n numbers) found
          → with_number found (λ n. order_behind (give (setting_as option) n numbers) (texts cs)) ≡ order_behind (numbers_of next) (texts cs)
      by None is = absurd (cc)
      by (Some n) is = ap (λ (m : Numbers). order_behind m (texts cs)) (sym (ap numbers_in is))

-- ---- the numbers are within their limits

abbrev number_of : Option ℕ → ℕ
number_of None = 0
number_of (Some n) = n

number_few : (most n : ℕ) (text : Bytes) → number most text ≡ Some n → n ≤ most
number_few most n text is = by (unsigned text) is
  where
    by : (read : Option ℕ) → within most read ≡ Some n → n ≤ most
    by None is = absurd (cc)
    by (Some m) is = bounded (leb 1 m) (leb m most) refl is
      where
        bounded : (least few : Bool) → leb m most ≡ few → cond (least && few) (Some m) None ≡ Some n → n ≤ most
        bounded true true few is = let same : m ≡ n = ap number_of is in grind arith
        bounded true false few is = absurd (cc)
        bounded false few is_few is = absurd (cc)

once_few : (most n : ℕ) (before : Option ℕ) (text : Bytes) → once before (number most text) ≡ Some n → n ≤ most
once_few most n None text is = number_few most n text is
once_few most n (Some m) text is = absurd (cc)

-- the number of an option that words ask for
abbrev asked_number : Setting → Asked → ℕ
asked_number Budget asked = asked.budget
asked_number MaxEntries asked = asked.max_entries
asked_number MaxBytes asked = asked.max_bytes

-- what is asked for is within the limits
abbrev Within : Option Asked → Type 0
Within None = Unit {0}
Within (Some asked) = (it : Setting) → asked_number it asked ≤ greatest it

-- the numbers that were given are
abbrev Few : Numbers → Type 0
Few numbers = (it : Setting) → value_of it numbers ≤ greatest it

usual_few : Few no_numbers
usual_few Budget = omega arith
usual_few MaxEntries = omega arith
usual_few MaxBytes = omega arith

give_few : (numbers : Numbers) (option : Setting) (n : ℕ) → n ≤ greatest option → Few numbers → Few (give option n numbers)
give_few numbers Budget n few all Budget = few
give_few numbers Budget n few all MaxEntries = all MaxEntries
give_few numbers Budget n few all MaxBytes = all MaxBytes
give_few numbers MaxEntries n few all Budget = all Budget
give_few numbers MaxEntries n few all MaxEntries = few
give_few numbers MaxEntries n few all MaxBytes = all MaxBytes
give_few numbers MaxBytes n few all Budget = all Budget
give_few numbers MaxBytes n few all MaxEntries = all MaxEntries
give_few numbers MaxBytes n few all MaxBytes = few

abbrev asked_for : Numbers → Bytes → List Bytes → Asked
asked_for numbers name words = record {
  budget = value_of Budget numbers;
  max_entries = value_of MaxEntries numbers;
  max_bytes = value_of MaxBytes numbers;
  name = name;
  words = words;
}

named_few : (numbers : Numbers) (words : Option (List Bytes)) → Few numbers → Within (named numbers words)
named_few numbers None all = tt
named_few numbers (Some []) all = tt
named_few numbers (Some (name ∷ words)) all = by (eqb (length name) 0)
  where
    by : (b : Bool) → Within (cond b None (Some (asked_for numbers name words)))
    by true = tt
    by false = λ it. each it
      where
        each : (it : Setting) → asked_number it (asked_for numbers name words) ≤ greatest it
        each Budget = all Budget
        each MaxEntries = all MaxEntries
        each MaxBytes = all MaxBytes

behind_few : (numbers : Numbers) (words : List Bytes) → Few numbers → Within (order_behind numbers words)
behind_few numbers [] all = tt
behind_few numbers (word ∷ []) all = named_few numbers (plain (word ∷ [])) all
behind_few numbers (word ∷ text ∷ words) all = by (setting word) (λ it n few. behind_few (give it n numbers) words (give_few numbers it n few all))
  where
    next : (it : Setting) (found : Option ℕ) → gives numbers it text ≡ found → ((n : ℕ) → n ≤ greatest it → Within (order_behind (give it n numbers) words))
        → Within (with_number found (λ n. order_behind (give it n numbers) words))
    next it None is again = tt
    next it (Some n) is again = again n (once_few (greatest it) n (given it numbers) text is)

    by : (found : Option Setting) → ((it : Setting) (n : ℕ) → n ≤ greatest it → Within (order_behind (give it n numbers) words))
        → Within (with_setting found (asks numbers text words) (named numbers (plain (word ∷ text ∷ words))))
    by None again = named_few numbers (plain (word ∷ text ∷ words)) all
    by (Some it) again = next it (gives numbers it text) refl (again it)

order_few : (words : List Bytes) → Within (order_of_words words)
unfolding order_of_words
order_few words = behind_few no_numbers words usual_few

-- and so is what is answered
module _ (words : List Bytes) where
  pub budget_few : (result : Result Order OptionsFault) → AnswersOptions words result → IfOk result (λ order. order.budget ≤ most_budget)
  budget_few (Ok order) is = subst Within is (order_few words) Budget
  budget_few (Err fault) is = tt

  pub entries_few : (result : Result Order OptionsFault) → AnswersOptions words result → IfOk result (λ order. order.max_entries ≤ MOST_ENTRIES)
  entries_few (Ok order) is = subst Within is (order_few words) MaxEntries
  entries_few (Err fault) is = tt

  pub bytes_few : (result : Result Order OptionsFault) → AnswersOptions words result → IfOk result (λ order. order.max_bytes ≤ MOST_BYTES)
  bytes_few (Ok order) is = subst Within is (order_few words) MaxBytes
  bytes_few (Err fault) is = tt
