use Rattle.std.proofs.Common.{rules, ap, sym, ◌∙◌, ◌≡◌, subst, length}
use Rattle.uq_value.specs.Data.{names_of, IsDistinct}
use Rattle.uq_value.specs.Places.{place_of}
use Rattle.uq_value.specs.Plain.{plain}
use Rattle.uq_value.specs.Put.{with_member}
use Rattle.uq_value.specs.Internal.Beside.{NamesAre}
use Rattle.uq_value.specs.Internal.Kept.{plain_member}
use Rattle.uq_value.specs.Internal.Names.{name_of, names, IsFound}
use Rattle.uq_value.proofs.ByName.{place-view, member-set, names-set, member-added, names-more}
use Rattle.uq_value.proofs.Fields.{names-view}
use Rattle.uq_value.proofs.NamePlaces.{length-names}
use Rattle.uq_value.proofs.builder.ObjectBuilder.set.Goals as goal

pub invariant_of-self : goal.invariant_of-self
invariant_of-self c =
    let ms = c.self.inside.members.items in
    let f : IsFound (names ms) c.args.name.items c.in-Ok.at = subst (λ n. IsFound (names ms) n c.in-Ok.at) c.as_slice-2.ensures.value (subst (λ ns. IsFound (names ns) c.as_slice-2.result.now c.in-Ok.at) c.as_slice.ensures.value c.in-Ok.ensures.found) in
    let same = names-set ms c.args.name.items c.in-Ok.at c.index_mut.result.now f c.index_mut.ensures.value c.set_value.new.self (ap (λ m. name_of m) c.set_value.ensures) in
    record {
      distinct = subst (λ ns. IsDistinct ns) (sym same) c.self.invariant.distinct;
      index = subst (λ ns. NamesAre c.self.inside.kept ns) (sym same) c.self.invariant.index;
      counts = c.self.invariant.counts;
    }

pub returns-in-Ok-clause-place : goal.returns-in-Ok-clause-place
returns-in-Ok-clause-place c =
    let ms = c.self.inside.members.items in
    let f : IsFound (names ms) c.args.name.items c.in-Ok.at = subst (λ n. IsFound (names ms) n c.in-Ok.at) c.as_slice-2.ensures.value (subst (λ ns. IsFound (names ns) c.as_slice-2.result.now c.in-Ok.at) c.as_slice.ensures.value c.in-Ok.ensures.found) in
    sym (ap (λ ns. place_of c.args.name.items (names_of ns)) (sym c.self.view_is) ∙ place-view ms c.args.name.items ∙ f.place)

pub returns-in-Ok-clause-ok : goal.returns-in-Ok-clause-ok
returns-in-Ok-clause-ok c =
    let ms = c.self.inside.members.items in
    let f : IsFound (names ms) c.args.name.items c.in-Ok.at = subst (λ n. IsFound (names ms) n c.in-Ok.at) c.as_slice-2.ensures.value (subst (λ ns. IsFound (names ns) c.as_slice-2.result.now c.in-Ok.at) c.as_slice.ensures.value c.in-Ok.ensures.found) in
    member-set ms c.args.name.items c.in-Ok.at c.index_mut.result.now f c.index_mut.ensures.value c.set_value.new.self (plain c.args.value) (ap (λ m. plain_member m) c.set_value.ensures)
    ∙ ap (λ ns. with_member c.args.name.items (plain c.args.value) ns) c.self.view_is

pub returns-in-Ok-clause-distinct : goal.returns-in-Ok-clause-distinct
returns-in-Ok-clause-distinct c =
    let ms = c.self.inside.members.items in
    let f : IsFound (names ms) c.args.name.items c.in-Ok.at = subst (λ n. IsFound (names ms) n c.in-Ok.at) c.as_slice-2.ensures.value (subst (λ ns. IsFound (names ns) c.as_slice-2.result.now c.in-Ok.at) c.as_slice.ensures.value c.in-Ok.ensures.found) in
    let same = names-set ms c.args.name.items c.in-Ok.at c.index_mut.result.now f c.index_mut.ensures.value c.set_value.new.self (ap (λ m. name_of m) c.set_value.ensures) in
    subst (λ ns. IsDistinct ns) (sym (names-view _ ∙ same)) c.self.invariant.distinct

pub invariant_of-self-in-Err : goal.invariant_of-self-in-Err
invariant_of-self-in-Err c =
    let ms = c.self.inside.members.items in
    let l : place_of c.args.name.items (names ms) ≡ length (names ms) = subst (λ n. place_of n (names ms) ≡ length (names ms)) c.as_slice-2.ensures.value (subst (λ ns. place_of c.as_slice-2.result.now (names ns) ≡ length (names ns)) c.as_slice.ensures.value c.in-Err.ensures.lacks.0) in
    record {
      distinct = names-more ms c.args.name.items l c.add.new.members.items (plain c.args.value) (c.in_ok-add-in-Err.ensures.ok) c.self.invariant.distinct;
      index = c.add.ensures.index;
      counts = λ ds. c.add.ensures.counts ds (c.self.invariant.counts ds);
    }

pub returns-in_ok-add-in-Err-clause-place : goal.returns-in_ok-add-in-Err-clause-place
returns-in_ok-add-in-Err-clause-place c =
    let ms = c.self.inside.members.items in
    let l : place_of c.args.name.items (names ms) ≡ length (names ms) = subst (λ n. place_of n (names ms) ≡ length (names ms)) c.as_slice-2.ensures.value (subst (λ ns. place_of c.as_slice-2.result.now (names ns) ≡ length (names ns)) c.as_slice.ensures.value c.in-Err.ensures.lacks.0) in
    (let n : c.len-at.result ≡ length ms = search rules in n) ∙ sym (ap (λ ns. place_of c.args.name.items (names_of ns)) (sym c.self.view_is) ∙ place-view ms c.args.name.items ∙ l ∙ length-names ms)

pub returns-in_ok-add-in-Err-clause-ok : goal.returns-in_ok-add-in-Err-clause-ok
returns-in_ok-add-in-Err-clause-ok c =
    let ms = c.self.inside.members.items in
    let l : place_of c.args.name.items (names ms) ≡ length (names ms) = subst (λ n. place_of n (names ms) ≡ length (names ms)) c.as_slice-2.ensures.value (subst (λ ns. place_of c.as_slice-2.result.now (names ns) ≡ length (names ns)) c.as_slice.ensures.value c.in-Err.ensures.lacks.0) in
    c.in_ok-add-in-Err.ensures.ok ∙ sym (member-added ms c.args.name.items l (plain c.args.value)) ∙ ap (λ ns. with_member c.args.name.items (plain c.args.value) ns) c.self.view_is

pub returns-in_ok-add-in-Err-clause-distinct : goal.returns-in_ok-add-in-Err-clause-distinct
returns-in_ok-add-in-Err-clause-distinct c =
    let ms = c.self.inside.members.items in
    let l : place_of c.args.name.items (names ms) ≡ length (names ms) = subst (λ n. place_of n (names ms) ≡ length (names ms)) c.as_slice-2.ensures.value (subst (λ ns. place_of c.as_slice-2.result.now (names ns) ≡ length (names ns)) c.as_slice.ensures.value c.in-Err.ensures.lacks.0) in
    subst (λ ns. IsDistinct ns) (sym (names-view c.add.new.members.items)) (names-more ms c.args.name.items l c.add.new.members.items (plain c.args.value) (c.in_ok-add-in-Err.ensures.ok) c.self.invariant.distinct)
