use Rattle.std.proofs.Common.{◌≡◌, sym, ◌∙◌, ap, w64, rules}
use Rattle.std.specs.Fmt.{signed_decimal}
use mir.Val.{to_z, of_z}
use Rattle.uq_json.specs.Text.{text_of}
use Rattle.jx9_vm.proofs.PrintLemmas.{missed_by, printed_by}
use Rattle.jx9_vm.proofs.machine.print.Goals as goal

pub returns-in-Text-clause-prints : goal.returns-in-Text-clause-prints
returns-in-Text-clause-prints g c =
    printed_by c.bytes.result.now c.args.work.now c.pop-value.new.self c.put_out.new.work _ _ c.put_out.result
    (c.bytes.ensures.bytes ∙ sym (ap text_of c.in-Text.is) ∙ ap text_of c.pop-value.ensures.value) c.pop-value.ensures.popped c.put_out.ensures.puts c.put_out.ensures.bytes

pub returns-in-Int-clause-prints : goal.returns-in-Int-clause-prints
returns-in-Int-clause-prints g c =
    let e : to_z w64 (of_z w64 c.in-Int.z) ≡ c.in-Int.z = search rules in
    printed_by c.as_bytes.result.now c.args.work.now c.pop-value.new.self c.put_out-in-Int.new.work _ _ c.put_out-in-Int.result
    (c.as_bytes.ensures.value ∙ c.format.ensures.text ∙ ap signed_decimal e ∙ sym (ap text_of c.in-Int.is) ∙ ap text_of c.pop-value.ensures.value) c.pop-value.ensures.popped
    c.put_out-in-Int.ensures.puts c.put_out-in-Int.ensures.bytes

pub returns-in-Ok-clause-prints : goal.returns-in-Ok-clause-prints
returns-in-Ok-clause-prints g c =
    printed_by c.as_slice.result.now c.args.work.now c.pop-value.new.self c.put_out-in-Ok.new.work _ _ c.put_out-in-Ok.result
    (c.as_slice.ensures.value ∙ c.in-Ok.ensures ∙ ap text_of c.pop-value.ensures.value) c.pop-value.ensures.popped c.put_out-in-Ok.ensures.puts c.put_out-in-Ok.ensures.bytes

pub returns-in-Ok-clause-misses : goal.returns-in-Ok-clause-misses
returns-in-Ok-clause-misses g c =
    missed_by c.as_slice.result.now c.args.work.now c.pop-value.new.self c.put_out-in-Ok.new.work _ _ _ _ c.put_out-in-Ok.result
    (c.as_slice.ensures.value ∙ c.in-Ok.ensures ∙ ap text_of c.pop-value.ensures.value) c.pop-value.ensures.popped c.put_out-in-Ok.ensures.misses
