-- Records that come one after another, and a collection that is taken out and put back.
use Rattle.std.proofs.Common.{◌≡◌, ℕ, Bool, true, false, cond, List, [], ◌∷◌, ◌++◌, Option, Some, refl, sym, ap, subst, ◌∙◌}
use Rattle.std.specs.Option.{OnSome}
use Rattle.std.specs.Ordering.{nat_cmp, is_eq, eq_by_cmp}
use Rattle.std.specs.Cmp.{tied_itself}
use Rattle.std.specs.Cmp.Lexicographic.{slice_cmp, nat_list_cmp_total}
use Rattle.std.specs.FinMap as map
use Rattle.std.specs.FinMap.{get-insert, same_map}
use Rattle.uq_value.specs.Data.{Bytes}
use Rattle.uq_value.specs.declared.value.Value.{Value}
use Rattle.uq_model.specs.declared.collection.Collection.{Collection}
use Rattle.uq_model.specs.Store.{Collections}
use Rattle.uq_model.specs.Collections.{Records, with_records}
use Rattle.uq_model.proofs.StoreSums.{names_same}

pub with_records-push : (rs : List (ℕ × Value)) (r : ℕ × Value) (records : Records)
    → with_records (rs ++ r ∷ []) records ≡ map.insert (with_records rs records) r.0 r.1
with_records-push [] r records = refl
with_records-push (s ∷ rs) r records = with_records-push rs r (map.insert records s.0 s.1)

hidden : {B : Type 0} (b : Bool) (x y n : B) → cond b x (cond b y n) ≡ cond b x n
hidden true x y n = refl
hidden false x y n = refl

twice : (cs : Collections) (name : Bytes) (d c : Collection)
    → map.insert (map.insert cs name d) name c ≡ map.insert cs name c
twice cs name d c = same_map nat_list_cmp_total names_same _ _ (λ q.
    get-insert nat_list_cmp_total (map.insert cs name d) name c q
    ∙ ap (cond (eq_by_cmp (slice_cmp nat_cmp) q name) (Some c)) (get-insert nat_list_cmp_total cs name d q)
    ∙ hidden (eq_by_cmp (slice_cmp nat_cmp) q name) (Some c) (Some d) (map.get cs q)
    ∙ sym (get-insert nat_list_cmp_total cs name c q))

is_there : (cs : Collections) (name : Bytes) (d : Collection) → map.get (map.insert cs name d) name ≡ Some d
is_there cs name d = get-insert nat_list_cmp_total cs name d name
    ∙ ap (λ r. cond (is_eq r) (Some d) (map.get cs name)) (tied_itself nat_list_cmp_total name)

pub put_back : (cs : Collections) (name : Bytes) (d c : Collection) (out : Collections) (r : Option Collection)
    (new : Collections)
    → out ≡ map.insert cs name d → r ≡ map.get out name → OnSome r (new ≡ map.insert out name c)
    → new ≡ map.insert cs name c
put_back cs name d c out r new taken got put =
    let there : r ≡ Some d = got ∙ ap (λ m. map.get m name) taken ∙ is_there cs name d in
    let done : new ≡ map.insert out name c =
    subst (λ (o : Option Collection). OnSome o (new ≡ map.insert out name c)) there put in
    done ∙ ap (λ m. map.insert m name c) taken ∙ twice cs name d c
