use Rattle.std.proofs.Common.{arith, ap, ◌∙◌, ◌≡◌, ◌<◌, ◌-◌, ◌+◌, ◌^◌, ◌++◌, ◌∷◌, [], length, map, refl, sym, subst, Ok, OnOk, IfErr}
use Rattle.std.proofs.lemmas.Result.{err_from_is_err_and}
use Rattle.std.specs.List.{All}
use Rattle.uq_value.specs.Depth.{most_depth}
use Rattle.uq_value.specs.Plain.{plain, depth}
use Rattle.uq_value.specs.Internal.Names.{names, member_depth, IsFound}
use Rattle.uq_value.specs.Put.{named}
use Rattle.uq_value.specs.Faults.{Refuses}
use Rattle.uq_value.specs.Internal.Kept.{plain_member}
use Rattle.uq_value.specs.Internal.Writing.{put_at}
use Rattle.uq_value.specs.Internal.Beside.{size_of, CountsAre, Mends}
use Rattle.uq_value.specs.declared.value.Value.{Value}
use Rattle.uq_value.proofs.ListWrite.{no-less, refused, done, is_list, part-kept, part-now, size-now, shallow-now, few-now, append-refused, appended, append-fits}
use Rattle.uq_value.proofs.ObjectWrite.{add-refused, added, add-small, add-shallow}
use Rattle.uq_value.proofs.ObjectWrite as O
use Rattle.uq_value.specs.Places.{place_of}
use Rattle.uq_value.proofs.Fields.{added_is_object, few-members}
use Rattle.uq_value.proofs.ByName.{missing, name-there}
use Rattle.uq_value.proofs.+write.Goals as goal

-- ---- a list

pub list::List::append-returns-in_err-write-clause-refused : goal.list::List::append-returns-in_err-write-clause-refused
list::List::append-returns-in_err-write-clause-refused t c =
    let p = err_from_is_err_and c.from_residual.result c.from_residual.ensures.1 in
    rw (p.1, p.2) (append-refused c.args.self.now c.args.room c.saturating_sub.result
    (c.saturating_sub.ensures ∙ ap (λ n. c.args.room - n) c.size_beside_next-beside.ensures.size)
    c.args.rest.now c.args.new _ (c.in_err-write.ensures.refused))

pub list::List::append-push_within-requires-clause-fits : goal.list::List::append-push_within-requires-clause-fits
list::List::append-push_within-requires-clause-fits t c =
    append-fits c.args.self.now c.args.room c.saturating_sub.result
    (c.saturating_sub.ensures ∙ ap (λ n. c.args.room - n) c.size_beside_next-beside.ensures.size)
    c.args.rest.now c.args.new c.write.new.v (c.in_ok-write.ensures.ok) c.requires.small c.requires.shallow

pub list::List::append-returns-clause-ok : goal.list::List::append-returns-clause-ok
list::List::append-returns-clause-ok t c =
    appended c.args.self.now c.args.room c.saturating_sub.result
    (c.saturating_sub.ensures ∙ ap (λ n. c.args.room - n) c.size_beside_next-beside.ensures.size)
    c.args.rest.now c.args.new c.write.new.v (c.in_ok-write.ensures.ok) _ (c.in_ok-push_within.ensures.ok)

pub list::List::write_at-overflow_sub-size : goal.list::List::write_at-overflow_sub-size
list::List::write_at-overflow_sub-size t c = rw (c.size-size_before.ensures.size, c.size.ensures) (no-less _ c.self.invariant _ c.self.view_is c.args.at _ c.requires.within c.index_mut-child.ensures.value)

pub list::List::write_at-returns-in_err-write-clause-refused : goal.list::List::write_at-returns-in_err-write-clause-refused
list::List::write_at-returns-in_err-write-clause-refused t c =
    let p = err_from_is_err_and c.from_residual.result c.from_residual.ensures.1 in
    rw (p.1, p.2) (refused _ c.self.invariant _ c.self.view_is c.args.at _ c.requires.within c.index_mut-child.ensures.value c.args.room c.saturating_sub.result
    (c.saturating_sub.ensures ∙ ap (λ n. c.args.room - (n - c.size-size_before.result)) c.size.ensures ∙ ap (λ n. c.args.room - (size_of c.self.inside.kept - n)) c.size-size_before.ensures.size)
    c.args.rest.now c.args.new _ (c.in_err-write.ensures.refused))

pub list::List::write_at-overflow_sub-size-2 : goal.list::List::write_at-overflow_sub-size-2
list::List::write_at-overflow_sub-size-2 t c = rw (c.size-size_before.ensures.size, c.size-2.ensures) (no-less _ c.self.invariant _ c.self.view_is c.args.at _ c.requires.within c.index_mut-child.ensures.value)

pub list::List::write_at-mend-requires-clause-few : goal.list::List::write_at-mend-requires-clause-few
list::List::write_at-mend-requires-clause-few t c =
    subst (λ vs. length vs + 1 < 2 ^ 32) (sym c.as_slice.ensures.value)
    (few-now _ c.self.invariant _ c.self.view_is c.args.at _ c.requires.within c.index_mut-child.ensures.value c.args.room c.saturating_sub.result (c.saturating_sub.ensures ∙ ap (λ n. c.args.room - (n - c.size-size_before.result)) c.size.ensures ∙ ap (λ n. c.args.room - (size_of c.self.inside.kept - n)) c.size-size_before.ensures.size) c.args.rest.now c.args.new c.write.new.v c.in_ok-write.ensures.ok c.requires.small c.requires.shallow)

pub list::List::write_at-mend-requires-clause-shallow : goal.list::List::write_at-mend-requires-clause-shallow
list::List::write_at-mend-requires-clause-shallow t c =
    subst (λ vs. All (λ v. depth v < most_depth) vs) (sym c.as_slice.ensures.value)
    (shallow-now _ c.self.invariant _ c.self.view_is c.args.at _ c.requires.within c.index_mut-child.ensures.value c.args.room c.saturating_sub.result (c.saturating_sub.ensures ∙ ap (λ n. c.args.room - (n - c.size-size_before.result)) c.size.ensures ∙ ap (λ n. c.args.room - (size_of c.self.inside.kept - n)) c.size-size_before.ensures.size) c.args.rest.now c.args.new c.write.new.v c.in_ok-write.ensures.ok c.requires.small c.requires.shallow)

pub list::List::write_at-mend-requires-clause-small : goal.list::List::write_at-mend-requires-clause-small
list::List::write_at-mend-requires-clause-small t c =
    omega (arith, c.size-2.ensures, c.size-size_before.ensures.size, c.size-size_after.ensures.size, size-now _ c.self.invariant _ c.self.view_is c.args.at _ c.requires.within c.index_mut-child.ensures.value c.args.room c.saturating_sub.result (c.saturating_sub.ensures ∙ ap (λ n. c.args.room - (n - c.size-size_before.result)) c.size.ensures ∙ ap (λ n. c.args.room - (size_of c.self.inside.kept - n)) c.size-size_before.ensures.size) c.args.rest.now c.args.new c.write.new.v c.in_ok-write.ensures.ok c.requires.small c.requires.shallow)

pub list::List::write_at-mend-requires-clause-before : goal.list::List::write_at-mend-requires-clause-before
list::List::write_at-mend-requires-clause-before t c =
    omega (arith, c.depth-depth_before.ensures.depth, c.self.invariant.depth_within, part-kept _ c.self.invariant _ c.self.view_is c.args.at _ c.requires.within c.index_mut-child.ensures.value c.args.room c.saturating_sub.result (c.saturating_sub.ensures ∙ ap (λ n. c.args.room - (n - c.size-size_before.result)) c.size.ensures ∙ ap (λ n. c.args.room - (size_of c.self.inside.kept - n)) c.size-size_before.ensures.size) c.args.rest.now c.args.new c.write.new.v c.in_ok-write.ensures.ok c.requires.small c.requires.shallow)

pub list::List::write_at-mend-requires-clause-after : goal.list::List::write_at-mend-requires-clause-after
list::List::write_at-mend-requires-clause-after t c =
    omega (arith, c.depth-depth_after.ensures.depth, part-now _ c.self.invariant _ c.self.view_is c.args.at _ c.requires.within c.index_mut-child.ensures.value c.args.room c.saturating_sub.result (c.saturating_sub.ensures ∙ ap (λ n. c.args.room - (n - c.size-size_before.result)) c.size.ensures ∙ ap (λ n. c.args.room - (size_of c.self.inside.kept - n)) c.size-size_before.ensures.size) c.args.rest.now c.args.new c.write.new.v c.in_ok-write.ensures.ok c.requires.small c.requires.shallow)

pub list::List::write_at-mend-requires-clause-kept : goal.list::List::write_at-mend-requires-clause-kept
list::List::write_at-mend-requires-clause-kept t c =
    omega (arith, c.depth-depth_before.ensures.depth, part-kept _ c.self.invariant _ c.self.view_is c.args.at _ c.requires.within c.index_mut-child.ensures.value c.args.room c.saturating_sub.result (c.saturating_sub.ensures ∙ ap (λ n. c.args.room - (n - c.size-size_before.result)) c.size.ensures ∙ ap (λ n. c.args.room - (size_of c.self.inside.kept - n)) c.size-size_before.ensures.size) c.args.rest.now c.args.new c.write.new.v c.in_ok-write.ensures.ok c.requires.small c.requires.shallow)

pub list::List::write_at-invariant_of-self-2 : goal.list::List::write_at-invariant_of-self-2
list::List::write_at-invariant_of-self-2 t c =
    is_list _ c.self.invariant _ c.self.view_is c.args.at _ c.requires.within c.index_mut-child.ensures.value c.args.room c.saturating_sub.result (c.saturating_sub.ensures ∙ ap (λ n. c.args.room - (n - c.size-size_before.result)) c.size.ensures ∙ ap (λ n. c.args.room - (size_of c.self.inside.kept - n)) c.size-size_before.ensures.size) c.args.rest.now c.args.new c.write.new.v c.in_ok-write.ensures.ok c.requires.small c.requires.shallow
    c.is_value.ensures.sound _ refl
    (omega (arith, c.mend.ensures.size, c.size-2.ensures, c.size-size_before.ensures.size, c.size-size_after.ensures.size))
    (subst (λ vs. Mends c.self.inside.kept c.mend.new.self (depth c.index_mut-child.result.now) (depth c.write.new.v) (map depth vs)) c.as_slice.ensures.value
    (subst (λ d. Mends c.self.inside.kept c.mend.new.self (depth c.index_mut-child.result.now) d (map depth c.as_slice.result.now)) c.depth-depth_after.ensures.depth
    (subst (λ d. Mends c.self.inside.kept c.mend.new.self d c.depth-depth_after.result (map depth c.as_slice.result.now)) c.depth-depth_before.ensures.depth c.mend.ensures.mended)))

pub list::List::write_at-returns-clause-ok : goal.list::List::write_at-returns-clause-ok
list::List::write_at-returns-clause-ok t c =
    done _ c.self.invariant _ c.self.view_is c.args.at _ c.requires.within c.index_mut-child.ensures.value c.args.room c.saturating_sub.result (c.saturating_sub.ensures ∙ ap (λ n. c.args.room - (n - c.size-size_before.result)) c.size.ensures ∙ ap (λ n. c.args.room - (size_of c.self.inside.kept - n)) c.size-size_before.ensures.size) c.args.rest.now c.args.new c.write.new.v c.in_ok-write.ensures.ok _ refl

-- ---- an object

pub object::Object::write_at-overflow_sub-size : goal.object::Object::write_at-overflow_sub-size
object::Object::write_at-overflow_sub-size t c = rw (c.size-size_before.ensures.size, c.size.ensures) (O.no-less _ c.self.invariant _ c.self.view_is c.args.at c.requires.within c.index_mut.result.now c.index_mut.ensures.value)

pub object::Object::write_at-returns-in_err-write-clause-refused : goal.object::Object::write_at-returns-in_err-write-clause-refused
object::Object::write_at-returns-in_err-write-clause-refused t c =
    let p = err_from_is_err_and c.from_residual.result c.from_residual.ensures.1 in
    rw (p.1, p.2) (O.refused _ c.self.invariant _ c.self.view_is c.args.at c.requires.within c.index_mut.result.now c.index_mut.ensures.value c.args.room c.saturating_sub.result
    (c.saturating_sub.ensures ∙ ap (λ n. c.args.room - (n - c.size-size_before.result)) c.size.ensures ∙ ap (λ n. c.args.room - (size_of c.self.inside.kept - n)) c.size-size_before.ensures.size)
    c.args.rest.now c.args.new _ (c.in_err-write.ensures.refused))

pub object::Object::write_at-overflow_sub-size-2 : goal.object::Object::write_at-overflow_sub-size-2
object::Object::write_at-overflow_sub-size-2 t c = rw (c.size-size_before.ensures.size, c.size-2.ensures) (O.no-less _ c.self.invariant _ c.self.view_is c.args.at c.requires.within c.index_mut.result.now c.index_mut.ensures.value)

pub object::Object::write_at-mend-requires-clause-few : goal.object::Object::write_at-mend-requires-clause-few
object::Object::write_at-mend-requires-clause-few t c =
    subst (λ vs. length vs + 1 < 2 ^ 32) (sym c.as_slice.ensures.value)
    (O.few-now _ c.self.invariant _ c.self.view_is c.args.at c.requires.within c.index_mut.result.now c.index_mut.ensures.value c.args.room c.saturating_sub.result (c.saturating_sub.ensures ∙ ap (λ n. c.args.room - (n - c.size-size_before.result)) c.size.ensures ∙ ap (λ n. c.args.room - (size_of c.self.inside.kept - n)) c.size-size_before.ensures.size) c.args.rest.now c.args.new c.write.new.v c.in_ok-write.ensures.ok c.requires.small c.requires.shallow)

pub object::Object::write_at-mend-requires-clause-shallow : goal.object::Object::write_at-mend-requires-clause-shallow
object::Object::write_at-mend-requires-clause-shallow t c =
    subst (λ vs. All (λ v. member_depth v < most_depth) vs) (sym c.as_slice.ensures.value)
    (O.shallow-now _ c.self.invariant _ c.self.view_is c.args.at c.requires.within c.index_mut.result.now c.index_mut.ensures.value c.args.room c.saturating_sub.result (c.saturating_sub.ensures ∙ ap (λ n. c.args.room - (n - c.size-size_before.result)) c.size.ensures ∙ ap (λ n. c.args.room - (size_of c.self.inside.kept - n)) c.size-size_before.ensures.size) c.args.rest.now c.args.new c.write.new.v c.in_ok-write.ensures.ok c.requires.small c.requires.shallow)

pub object::Object::write_at-mend-requires-clause-small : goal.object::Object::write_at-mend-requires-clause-small
object::Object::write_at-mend-requires-clause-small t c =
    omega (arith, c.size-2.ensures, c.size-size_before.ensures.size, c.size-size_after.ensures.size, O.size-now _ c.self.invariant _ c.self.view_is c.args.at c.requires.within c.index_mut.result.now c.index_mut.ensures.value c.args.room c.saturating_sub.result (c.saturating_sub.ensures ∙ ap (λ n. c.args.room - (n - c.size-size_before.result)) c.size.ensures ∙ ap (λ n. c.args.room - (size_of c.self.inside.kept - n)) c.size-size_before.ensures.size) c.args.rest.now c.args.new c.write.new.v c.in_ok-write.ensures.ok c.requires.small c.requires.shallow)

pub object::Object::write_at-mend-requires-clause-before : goal.object::Object::write_at-mend-requires-clause-before
object::Object::write_at-mend-requires-clause-before t c =
    omega (arith, c.depth-depth_before.ensures.depth, c.self.invariant.depth_within, O.part-kept _ c.self.invariant _ c.self.view_is c.args.at c.requires.within c.index_mut.result.now c.index_mut.ensures.value c.args.room c.saturating_sub.result (c.saturating_sub.ensures ∙ ap (λ n. c.args.room - (n - c.size-size_before.result)) c.size.ensures ∙ ap (λ n. c.args.room - (size_of c.self.inside.kept - n)) c.size-size_before.ensures.size) c.args.rest.now c.args.new c.write.new.v c.in_ok-write.ensures.ok c.requires.small c.requires.shallow)

pub object::Object::write_at-mend-requires-clause-after : goal.object::Object::write_at-mend-requires-clause-after
object::Object::write_at-mend-requires-clause-after t c =
    omega (arith, c.depth-depth_after.ensures.depth, O.part-now _ c.self.invariant _ c.self.view_is c.args.at c.requires.within c.index_mut.result.now c.index_mut.ensures.value c.args.room c.saturating_sub.result (c.saturating_sub.ensures ∙ ap (λ n. c.args.room - (n - c.size-size_before.result)) c.size.ensures ∙ ap (λ n. c.args.room - (size_of c.self.inside.kept - n)) c.size-size_before.ensures.size) c.args.rest.now c.args.new c.write.new.v c.in_ok-write.ensures.ok c.requires.small c.requires.shallow)

pub object::Object::write_at-mend-requires-clause-kept : goal.object::Object::write_at-mend-requires-clause-kept
object::Object::write_at-mend-requires-clause-kept t c =
    omega (arith, c.depth-depth_before.ensures.depth, O.part-kept _ c.self.invariant _ c.self.view_is c.args.at c.requires.within c.index_mut.result.now c.index_mut.ensures.value c.args.room c.saturating_sub.result (c.saturating_sub.ensures ∙ ap (λ n. c.args.room - (n - c.size-size_before.result)) c.size.ensures ∙ ap (λ n. c.args.room - (size_of c.self.inside.kept - n)) c.size-size_before.ensures.size) c.args.rest.now c.args.new c.write.new.v c.in_ok-write.ensures.ok c.requires.small c.requires.shallow)

pub object::Object::write_at-invariant_of-self-2 : goal.object::Object::write_at-invariant_of-self-2
object::Object::write_at-invariant_of-self-2 t c =
    O.is_object _ c.self.invariant _ c.self.view_is c.args.at c.requires.within c.index_mut.result.now c.index_mut.ensures.value c.args.room c.saturating_sub.result (c.saturating_sub.ensures ∙ ap (λ n. c.args.room - (n - c.size-size_before.result)) c.size.ensures ∙ ap (λ n. c.args.room - (size_of c.self.inside.kept - n)) c.size-size_before.ensures.size) c.args.rest.now c.args.new c.write.new.v c.in_ok-write.ensures.ok c.requires.small c.requires.shallow
    c.is_value.ensures.sound _ refl
    (omega (arith, c.mend.ensures.size, c.size-2.ensures, c.size-size_before.ensures.size, c.size-size_after.ensures.size))
    (subst (λ vs. Mends c.self.inside.kept c.mend.new.self (depth c.index_mut.result.now.value) (depth c.write.new.v) (map member_depth vs)) c.as_slice.ensures.value
    (subst (λ d. Mends c.self.inside.kept c.mend.new.self (depth c.index_mut.result.now.value) d (map member_depth c.as_slice.result.now)) c.depth-depth_after.ensures.depth
    (subst (λ d. Mends c.self.inside.kept c.mend.new.self d c.depth-depth_after.result (map member_depth c.as_slice.result.now)) c.depth-depth_before.ensures.depth c.mend.ensures.mended)))
    (c.mend.ensures.names (names c.self.inside.members.items) c.self.invariant.index)

pub object::Object::write_at-returns-clause-ok : goal.object::Object::write_at-returns-clause-ok
object::Object::write_at-returns-clause-ok t c =
    O.done _ c.self.invariant _ c.self.view_is c.args.at c.requires.within c.index_mut.result.now c.index_mut.ensures.value c.args.room c.saturating_sub.result (c.saturating_sub.ensures ∙ ap (λ n. c.args.room - (n - c.size-size_before.result)) c.size.ensures ∙ ap (λ n. c.args.room - (size_of c.self.inside.kept - n)) c.size-size_before.ensures.size) c.args.rest.now c.args.new c.write.new.v c.in_ok-write.ensures.ok _ refl

pub object::Object::write_member-returns-in_err-write-in-Err-clause-refused : goal.object::Object::write_member-returns-in_err-write-in-Err-clause-refused
object::Object::write_member-returns-in_err-write-in-Err-clause-refused t c =
    let l = missing c.self.inside.members.items c.args.self.now c.self.view_is c.args.name.now (subst (λ ms. place_of c.args.name.now (names ms) ≡ length (names ms)) c.as_slice.ensures.value c.in-Err.ensures.lacks.0) in
    let p = err_from_is_err_and c.from_residual.result c.from_residual.ensures.1 in
    rw (p.1, p.2) (add-refused c.args.self.now c.args.name.now l c.args.room c.saturating_sub.result
    (c.saturating_sub.ensures ∙ ap (λ n. c.args.room - n) (omega (arith, c.size_beside_next.ensures.size, c.name_size.ensures.size)))
    c.args.rest.now c.args.new _ (c.in_err-write-in-Err.ensures.refused))

pub object::Object::write_member-add-requires-in-Err-clause-shallow : goal.object::Object::write_member-add-requires-in-Err-clause-shallow
object::Object::write_member-add-requires-in-Err-clause-shallow t c =
    let l = missing c.self.inside.members.items c.args.self.now c.self.view_is c.args.name.now (subst (λ ms. place_of c.args.name.now (names ms) ≡ length (names ms)) c.as_slice.ensures.value c.in-Err.ensures.lacks.0) in
    omega (arith, c.depth-depth.ensures.depth, add-shallow c.args.self.now c.args.name.now l c.args.room c.saturating_sub.result (c.saturating_sub.ensures ∙ ap (λ n. c.args.room - n) (omega (arith, c.size_beside_next.ensures.size, c.name_size.ensures.size))) c.args.rest.now c.args.new c.write.new.v c.in_ok-write-in-Err.ensures.ok c.requires.shallow)

pub object::Object::write_member-invariant_of-self-in-Err : goal.object::Object::write_member-invariant_of-self-in-Err
object::Object::write_member-invariant_of-self-in-Err t c =
    let l = missing c.self.inside.members.items c.args.self.now c.self.view_is c.args.name.now (subst (λ ms. place_of c.args.name.now (names ms) ≡ length (names ms)) c.as_slice.ensures.value c.in-Err.ensures.lacks.0) in
    added_is_object c.self.inside c.args.self.now c.args.name.now c.write.new.v _ c.self.invariant c.self.view_is l
    (add-small c.args.self.now c.args.name.now l c.args.room c.saturating_sub.result (c.saturating_sub.ensures ∙ ap (λ n. c.args.room - n) (omega (arith, c.size_beside_next.ensures.size, c.name_size.ensures.size))) c.args.rest.now c.args.new c.write.new.v c.in_ok-write-in-Err.ensures.ok c.requires.small) (add-shallow c.args.self.now c.args.name.now l c.args.room c.saturating_sub.result (c.saturating_sub.ensures ∙ ap (λ n. c.args.room - n) (omega (arith, c.size_beside_next.ensures.size, c.name_size.ensures.size))) c.args.rest.now c.args.new c.write.new.v c.in_ok-write-in-Err.ensures.ok c.requires.shallow) c.is_value.ensures.sound
    (c.in_ok-add-in-Err.ensures.ok ∙ ap (λ n. map plain_member c.self.inside.members.items ++ (n, plain c.write.new.v) ∷ []) c.in_ok-name-in-Err.ensures)
    (omega (arith, c.add-in-Err.ensures.size, c.size_beside_next.ensures.size, c.name_size.ensures.size, c.size.ensures.size))
    (omega (arith, c.add-in-Err.ensures.depth, c.add.ensures.depth, c.depth-depth.ensures.depth))
    (subst (λ d. CountsAre c.add-in-Err.new.self (map member_depth c.self.inside.members.items ++ d ∷ [])) c.depth-depth.ensures.depth
    (c.add-in-Err.ensures.counts (map member_depth c.self.inside.members.items) (few-members c.self.inside c.self.invariant) (c.add.ensures.counts (map member_depth c.self.inside.members.items) c.self.invariant.counts)))
    c.in_ok-add-in-Err.ensures.depths (c.add-in-Err.ensures.names _ c.add.ensures.index)

pub object::Object::write_member-returns-in_ok-add-in-Err-clause-ok : goal.object::Object::write_member-returns-in_ok-add-in-Err-clause-ok
object::Object::write_member-returns-in_ok-add-in-Err-clause-ok t c =
    let l = missing c.self.inside.members.items c.args.self.now c.self.view_is c.args.name.now (subst (λ ms. place_of c.args.name.now (names ms) ≡ length (names ms)) c.as_slice.ensures.value c.in-Err.ensures.lacks.0) in
    added c.args.self.now c.args.name.now l c.args.room c.saturating_sub.result (c.saturating_sub.ensures ∙ ap (λ n. c.args.room - n) (omega (arith, c.size_beside_next.ensures.size, c.name_size.ensures.size))) c.args.rest.now c.args.new c.write.new.v c.in_ok-write-in-Err.ensures.ok _
    (c.in_ok-add-in-Err.ensures.ok ∙ ap (λ n. map plain_member c.self.inside.members.items ++ (n, plain c.write.new.v) ∷ []) c.in_ok-name-in-Err.ensures ∙ ap (λ ms. ms ++ (c.args.name.now, plain c.write.new.v) ∷ []) c.self.view_is)

pub object::Object::write_member-returns-in-Ok-clause-ok : goal.object::Object::write_member-returns-in-Ok-clause-ok
object::Object::write_member-returns-in-Ok-clause-ok t c =
    let f : IsFound (names c.self.inside.members.items) c.args.name.now c.in-Ok.at = subst (λ ms. IsFound (names ms) c.args.name.now c.in-Ok.at) c.as_slice.ensures.value c.in-Ok.ensures.found in
    subst (λ n. OnOk c.write_at.result (put_at c.args.room (named n) c.args.rest.now c.args.new (Value.Object c.args.self.now) ≡ Ok (Value.Object c.write_at.new.self)))
    (name-there c.self.inside.members.items c.args.self.now c.self.view_is c.args.name.now c.in-Ok.at f) c.write_at.ensures.ok

pub object::Object::write_member-returns-in-Ok-clause-refused : goal.object::Object::write_member-returns-in-Ok-clause-refused
object::Object::write_member-returns-in-Ok-clause-refused t c =
    let f : IsFound (names c.self.inside.members.items) c.args.name.now c.in-Ok.at = subst (λ ms. IsFound (names ms) c.args.name.now c.in-Ok.at) c.as_slice.ensures.value c.in-Ok.ensures.found in
    subst (λ n. IfErr c.write_at.result (Refuses (put_at c.args.room (named n) c.args.rest.now c.args.new (Value.Object c.args.self.now))))
    (name-there c.self.inside.members.items c.args.self.now c.self.view_is c.args.name.now c.in-Ok.at f) c.write_at.ensures.refused
