-- What follows from the clause of a call, or from a test.
use Rattle.std.proofs.Common.{◌≡◌, Bool, true, false, Result, Ok, Err, IfOk, sym}
use Rattle.std.specs.Prelude.{IfErr, OnOk}
use Rattle.std.specs.Bool.{MatchBool}
use Rattle.std.proofs.lemmas.Bool.{false≢true}

pub if_ok_map : {T E : Type 0} {P Q : T → Type 0} (r : Result T E) → IfOk r P → ((x : T) → P x → Q x) → IfOk r Q
if_ok_map (Ok x) h f = f x h
if_ok_map (Err e) h f = h

pub if_err_map : {T E : Type 0} {P Q : E → Type 0} (r : Result T E) → IfErr r P → ((e : E) → P e → Q e) → IfErr r Q
if_err_map (Ok x) h f = h
if_err_map (Err e) h f = f e h

pub on_ok_map : {T E P Q : Type 0} (r : Result T E) → OnOk r P → (P → Q) → OnOk r Q
on_ok_map (Ok x) h f = f h
on_ok_map (Err e) h f = h

pub on_true : {P : Type 0} (Q : Type 0) (b : Bool) → b ≡ true → P → MatchBool b P Q
on_true Q true h p = p
on_true Q false h p = absurd (false≢true h)

pub on_false : {P : Type 0} (Q : Type 0) (b : Bool) → b ≡ false → P → MatchBool b Q P
on_false Q false h p = p
on_false Q true h p = absurd (false≢true (sym h))
