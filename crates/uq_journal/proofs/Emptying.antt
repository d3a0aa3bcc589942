-- A journal in which no batch counts is brought to one closed gate.
use Rattle.std.proofs.Common.{◌≡◌, ◌≢◌, ⊎_elim, ℕ, zero, ◌≤◌, true, nat_le, List, [], ◌∷◌, ◌++◌, length, get_or, take, drop, refl, sym, ◌∙◌, ap, subst, arith, Some, length-take, length-drop, take-append-drop}
use Rattle.std.specs.Prelude.{cond}
use Rattle.std.specs.Option.{ForSome, option_map, option_and_then}
use Rattle.std.proofs.lemmas.Bool.{cases_eq}
use Rattle.std.proofs.lemmas.Bool.Decides.{nat_tests}
use Rattle.uq_outside.specs.declared.disk.Disk.{Ghosts}
use Rattle.uq_outside.specs.declared.fault.FileNo.TheVariants.{Journal}
use Rattle.uq_outside.specs.Files.{Files, InFile, Cut, Keeps, in_file}
use Rattle.uq_outside.specs.Since.{LeavesOnly, After, Steps, IsSettled}
use Rattle.uq_outside.specs.SinceLaws.{weaker, at_end}
use Rattle.uq_outside.specs.Stops.{Only}
use Rattle.uq_facts.specs.Written.{written}
use Rattle.uq_journal.specs.declared.format.TheConstants.{OPEN}
use Rattle.uq_journal.specs.Batches.{open_batches}
use Rattle.uq_journal.specs.Calls.{IsAtRest, RecoversAs, IsStill}
use Rattle.uq_journal.specs.Recovered.{restored, recovered}
use Rattle.uq_journal.specs.Recovery.{IsShut, IsOpened, Shortens}
use Rattle.uq_journal.specs.Steps.{AtGate}
use Rattle.uq_journal.proofs.Phases.{same_files}
use Rattle.uq_journal.proofs.Recovery.{closed_recovers, resting}

pub shortens_same : (files : Files) → Shortens files files
shortens_same files = record { main = refl; gate = λ _. refl; no_longer = omega arith }

pub shortens_on : (a b c : Files) → Shortens a b → Shortens b c → Shortens a c
shortens_on a b c first second = record {
  main = second.main ∙ first.main;
  gate = λ some.
      let one = first.gate some in
      let there : 1 ≤ length b.journal = omega (arith, ap length one, length-take 1 a.journal, length-take 1 b.journal, some) in
      second.gate there ∙ one;
  no_longer = omega (arith, first.no_longer, second.no_longer);
}

first_byte : (old new : List ℕ) → Cut 1 old new → 1 ≤ length old → take 1 new ≡ take 1 old
first_byte [] new cut some = absurd (omega arith)
first_byte (x ∷ old) [] cut some = let short = cut.no_shorter in absurd (omega arith)
first_byte (x ∷ old) (y ∷ new) cut some = ap (λ (b : ℕ). b ∷ []) (cut.same 0 (omega arith) (omega arith))

pub shortens_cut : (old new : Files) → InFile Journal (Cut 1) old new → Shortens old new
shortens_cut old new step = record {
  main = ap (λ (f : Files). f.main) step.other;
  gate = first_byte old.journal new.journal step.here;
  no_longer = step.here.no_longer;
}

at_most_one : (n : ℕ) → n ≤ 1 → nat_le n 1 ≡ true
at_most_one n le = grind (arith, nat_tests)

pub short_recovers : (files : Files) → length files.journal ≤ 1 → recovered files ≡ Some files.main
short_recovers files short =
    ap (λ b. cond b (Some files.main) (option_and_then (restored files.main) (open_batches zero files.journal))) (at_most_one (length files.journal) short)

-- where no batch counts, the files recover to the main file
pub shut_recovers : (files : Files) → IsShut files.journal → recovered files ≡ Some files.main
shut_recovers files shut =
    ⊎_elim (λ (is : shut.0 ≡ OPEN). short_recovers files (omega (arith, ap length shut.2, ap length (shut.3 is))))
    (λ (other : shut.0 ≢ OPEN). closed_recovers files shut.0 shut.1 shut.2 other) (cases_eq shut.0 OPEN)

nothing_left : (bytes : List ℕ) → length bytes ≤ 0 → bytes ≡ []
nothing_left [] none = refl
nothing_left (x ∷ bytes) none = absurd (omega arith)

pub shut_stays : (old new : Files) → IsShut old.journal → Shortens old new → IsShut new.journal
shut_stays old new shut step =
    let some : 1 ≤ length old.journal = omega (arith, ap length shut.2) in
    let gate : take 1 new.journal ≡ shut.0 ∷ [] = step.gate some ∙ ap (λ (l : List ℕ). take 1 l) shut.2 in
    let rest : List ℕ = drop 1 new.journal in (
      shut.0,
      rest,
      sym (take-append-drop 1 new.journal) ∙ ap (λ (l : List ℕ). l ++ rest) gate,
      λ is.
          nothing_left rest (omega (arith, length-drop 1 new.journal, step.no_longer, ap length shut.2, ap length (shut.3 is))),
    )

-- any byte at the gate of a journal of one byte
pub one_stays : (old new : Files) → length old.journal ≡ 1 → AtGate old new → length new.journal ≤ 1
one_stays old new one at =
    let some = at.behind (omega (arith, one)) in
    omega (arith, ap length some.1, length-drop 1 old.journal, one)

module _ {D : Type 0} (g : Ghosts D) (counts_now : (d : D) (t : ℕ) (f : Files) → t ≤ g.moment d → g.may_leave d f → g.left_since d t f) (start : Files) (before : D) (told : g.content before ≡ Some start) (settled : IsSettled g before start) (shut : IsShut start.journal) where
  abbrev P : Files → Type 0
  P = λ left. recovered left ≡ Some start.main

  pub cut_stop : (after : D) → Steps g Shortens before after → LeavesOnly g before after P
  cut_stop after steps = weaker g (After g before Shortens) P before after (λ left was.
      let step = subst (λ f. Shortens f left) (settled was.0 was.1) was.2 in
      shut_recovers left (shut_stays start left shut step) ∙ ap (λ (m : List ℕ). Some m) step.main) steps.stop

  module _ (after : D) (steps : Steps g Shortens before after) (cut : g.content after ≡ option_map (in_file Journal (take 1)) (g.content before)) (durable : ForSome (g.content after) (λ files. Only (Keeps Journal files) (g.may_leave after))) (read : D) (still : IsStill g after read) where
    abbrev pub cut_files : Files
    cut_files = in_file Journal (take 1) start

    pub cut_told : g.content read ≡ Some cut_files
    cut_told = still.same ∙ cut ∙ ap (option_map (in_file Journal (take 1))) told

    cut_is : cut_files.journal ≡ shut.0 ∷ []
    cut_is = ap (λ (l : List ℕ). take 1 l) shut.2

    pub cut_settled : IsSettled g read cut_files
    cut_settled left may =
        let now = at_end g (After g after (λ a b. b ≡ a)) counts_now after read still.steps.stop left may in
        let may_now : g.may_leave after left = subst (g.may_leave after) (sym now.2) now.1 in
        let was = at_end g (After g before Shortens) counts_now before after steps.stop left may_now in
        let step = subst (λ f. Shortens f left) (settled was.0 was.1) was.2 in
        same_files left cut_files step.main (durable cut_files (cut ∙ ap (option_map (in_file Journal (take 1))) told) left may_now)

    -- the gate is closed as it is
    pub cut_rest : (gate : List ℕ) → gate ≡ take 1 (drop 0 cut_files.journal) → get_or gate 0 0 ≡ 0 → IsAtRest g read cut_files
    cut_rest gate is zero_gate =
        let first : shut.0 ≡ 0 = sym (ap (λ (l : List ℕ). get_or l 0 0) (is ∙ ap (λ (l : List ℕ). take 1 l) cut_is)) ∙ zero_gate in
        resting g read cut_files (ap (λ (l : List ℕ). take 1 l) cut_is ∙ ap (λ (b : ℕ). b ∷ []) first) cut_settled

    pub close_stop : (closed : D) → Steps g AtGate read closed → LeavesOnly g read closed P
    close_stop closed run = weaker g (After g read AtGate) P read closed (λ left was.
        let at = subst (λ f. AtGate f left) (cut_settled was.0 was.1) was.2 in
        short_recovers left (one_stays cut_files left (ap length cut_is) at) ∙ ap (λ (m : List ℕ). Some m) at.main) run.stop

    pub close_rest : (closed : D) → Steps g AtGate read closed → g.content closed ≡ option_map (in_file Journal (written 0 (0 ∷ []))) (g.content read) → ForSome (g.content closed) (λ f. Only (Keeps Journal f) (g.may_leave closed))
        → (new : Files) × (g.content closed ≡ Some new) × (new.main ≡ start.main) × IsAtRest g closed new
    close_rest closed run set only =
        let now : Files = in_file Journal (written 0 (0 ∷ [])) cut_files in
        let is : g.content closed ≡ Some now = set ∙ ap (option_map (in_file Journal (written 0 (0 ∷ [])))) cut_told in (
          now,
          is,
          refl,
          resting g closed now refl (λ left may.
              let was = at_end g (After g read AtGate) counts_now read closed run.stop left may in
              let at = subst (λ f. AtGate f left) (cut_settled was.0 was.1) was.2 in
              same_files left now at.main (only now is left may)),
        )

pub one_shut : (journal : List ℕ) → length journal ≡ 1 → IsShut journal
one_shut [] one = absurd (omega (arith, one))
one_shut (gate ∷ rest) one = (gate, rest, refl, λ is. nothing_left rest (omega (arith, one)))

-- a gate is written into an empty journal
module _ {D : Type 0} (g : Ghosts D) (counts_now : (d : D) (t : ℕ) (f : Files) → t ≤ g.moment d → g.may_leave d f → g.left_since d t f) (start : Files) (before : D) (told : g.content before ≡ Some start) (settled : IsSettled g before start) (none : length start.journal ≡ 0) where
  pub fresh_recovers : recovered start ≡ Some start.main
  fresh_recovers = short_recovers start (omega (arith, none))

  pub fresh_stop : (closed : D) → Steps g AtGate before closed → LeavesOnly g before closed (RecoversAs start)
  fresh_stop closed run = weaker g (After g before AtGate) (RecoversAs start) before closed (λ left was.
      let at = subst (λ f. AtGate f left) (settled was.0 was.1) was.2 in
      short_recovers left (at.short (omega (arith, none))) ∙ ap (λ (m : List ℕ). Some m) at.main ∙ sym fresh_recovers) run.stop

  pub fresh_rest : (closed : D) → Steps g AtGate before closed → g.content closed ≡ option_map (in_file Journal (written 0 (0 ∷ []))) (g.content before) → ForSome (g.content closed) (λ f. Only (Keeps Journal f) (g.may_leave closed)) → IsOpened g start closed
  fresh_rest closed run set only =
      let now : Files = in_file Journal (written 0 (0 ∷ [])) start in
      let is : g.content closed ≡ Some now = set ∙ ap (option_map (in_file Journal (written 0 (0 ∷ [])))) told in
      record {
        now = now;
        told = is;
        main = fresh_recovers;
        rest = resting g closed now refl (λ left may.
            let was = at_end g (After g before AtGate) counts_now before closed run.stop left may in
            let at = subst (λ f. AtGate f left) (settled was.0 was.1) was.2 in
            same_files left now at.main (only now is left may));
      }
