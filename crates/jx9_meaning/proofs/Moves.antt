-- What a step may have changed: units, events, and the saved store.
use Rattle.std.proofs.Common.{◌≡◌, ℕ, ◌+◌, ◌*◌, ◌≤◌, List, [], ◌∷◌, ◌++◌, length, refl, sym, ◌∙◌, ap, arith, append-nil, subst}
use Rattle.std.proofs.lemmas.List.{append_assoc}
use Rattle.uq_model.specs.Session.{Session}
use Rattle.uq_model.specs.Store.{Store}
use Rattle.jx9_meaning.specs.Laws.{last_saved, SavedUnlessBegun}
use Rattle.jx9_meaning.specs.World.{State, Event, Out, Commit, Host}

-- each unit is worth two events
abbrev pub weight : State → ℕ
weight s = length s.events + 2 * s.world.units

-- at least d units fewer, and, with k events more, by d less weight
pub record Moves (d k : ℕ) (s t : State) : Type 0 where
  pub units : d + t.world.units ≤ s.world.units
  pub less : d + weight t ≤ k + weight s
  pub limits : t.world.limits ≡ s.world.limits
  pub hosts : t.world.hosts ≡ s.world.hosts
  pub more : List Event
  pub told : t.events ≡ s.events ++ more
  pub saved : t.world.session.saved ≡ last_saved s.world.session.saved more
  pub settled : SavedUnlessBegun s.world.session → SavedUnlessBegun t.world.session

last_of_both : (store : Store) (es fs : List Event) → last_saved store (es ++ fs) ≡ last_saved (last_saved store es) fs
last_of_both store [] fs = refl
last_of_both store (Out bytes ∷ es) fs = last_of_both store es fs
last_of_both store (Commit saved ∷ es) fs = last_of_both saved es fs
last_of_both store (Host name vs ∷ es) fs = last_of_both store es fs

-- one after the other
pub moves_then : (d j e k d' k' : ℕ) (s t u : State) → d' ≤ d + e → d' + j + k ≤ k' + d + e → Moves d j s t → Moves e k t u → Moves d' k' s u
moves_then d j e k d' k' s t u c1 c2 a b = record {
  units = omega (arith, c1, a.units, b.units);
  less = omega (arith, c2, a.less, b.less);
  limits = b.limits ∙ a.limits;
  hosts = b.hosts ∙ a.hosts;
  more = a.more ++ b.more;
  told = b.told ∙ ap (λ es. es ++ b.more) a.told ∙ append_assoc s.events a.more b.more;
  saved = b.saved ∙ ap (λ store. last_saved store b.more) a.saved ∙ sym (last_of_both s.world.session.saved a.more b.more);
  settled = λ h. b.settled (a.settled h);
}

pub moves_less : (d k d' k' : ℕ) (s t : State) → d' ≤ d → d' + k ≤ k' + d → Moves d k s t → Moves d' k' s t
moves_less d k d' k' s t c1 c2 a = record {
  units = omega (arith, c1, a.units);
  less = omega (arith, c2, a.less);
  limits = a.limits;
  hosts = a.hosts;
  more = a.more;
  told = a.told;
  saved = a.saved;
  settled = a.settled;
}

-- only units, variables, answers or the number of active calls changed
pub moves_still : (d : ℕ) (s t : State) → d + t.world.units ≤ s.world.units → t.events ≡ s.events → t.world.limits ≡ s.world.limits → t.world.hosts ≡ s.world.hosts → t.world.session ≡ s.world.session → Moves d 0 s t
moves_still d s t u es ls hs ss = record {
  units = u;
  less = let count : length t.events ≡ length s.events = ap length es in omega (arith, u, count);
  limits = ls;
  hosts = hs;
  more = [];
  told = es ∙ sym (append-nil s.events);
  saved = ap (λ (x : Session Store). x.saved) ss;
  settled = λ h. subst SavedUnlessBegun (sym ss) h;
}

pub moves_nowhere : (s : State) → Moves 0 0 s s
moves_nowhere s = moves_still 0 s s (omega arith) refl refl refl refl
