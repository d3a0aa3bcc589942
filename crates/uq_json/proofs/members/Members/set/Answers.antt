use Rattle.uq_value.specs.Plain.{plain}
use Rattle.uq_json.proofs.Keeping.{told, kept_as, set_either}
use Rattle.uq_json.proofs.members.Members.set.Goals as goal

pub returns : goal.returns
returns c = λ ms d stands value shallow.
    set_either c.args.name.items (plain c.unwrap_or.result) d c.is_none-is_left_out.result c.args.self.now.kept c.set.new.self ms c.args.self.now.left_out.items c.mark.new.marks.items c.in_ok-place.place
    (kept_as c.args.value c.unwrap_or.result c.is_none-is_left_out.result d c.unwrap_or.ensures (told c.args.value c.is_none-is_left_out.result c.is_none-is_left_out.ensures) value shallow)
    stands c.in_ok-place.ensures.place c.in_ok-place.ensures.ok c.in_ok-mark.ensures
