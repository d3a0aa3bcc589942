-- Behind a line fewer bytes count than before it.
use Rattle.std.proofs.Common.{◌≡◌, ◌≤◌, ◌<◌, ◌+◌, ◌-◌, ℕ, drop, length, length-drop, ap, ◌∙◌, arith}
use Rattle.uq_value.specs.Data.{Bytes}
use Rattle.uq_words.specs.Taking.{Cleared, Cuts, most_of, pending}
use Rattle.uq_words.specs.declared.lines.Lines.{Lines}

-- how many bytes are behind the line
behind : (it : Lines) → length (pending it) ≡ length it.bytes.items - it.next
behind it = length-drop it.next it.bytes.items

pub cuts_shorter : (limit : ℕ) (it new : Lines) (end : ℕ) → it.next ≤ end → end < length it.bytes.items → Cuts limit end (end + 1) it new → most_of new < most_of it
cuts_shorter limit it new end begins within cuts =
    let after : length (pending new) ≡ length it.bytes.items - (end + 1)
    = behind new ∙ ap (λ (n : ℕ). n - new.next) (ap length cuts.bytes) ∙ ap (λ (n : ℕ). length it.bytes.items - n) cuts.begins in
    let before = behind it in
    let room = cuts.room in
    omega arith

-- what is cleared has no more
pub clears : (it new : Lines) → Cleared it new → most_of new ≤ most_of it
clears it new cleared =
    let none : length (pending new) ≡ 0 = ap length cleared.pending in
    let room = cleared.room in
    omega arith

-- the next line begins behind that place
pub goes_behind : (bytes : Bytes) (next end room : ℕ) → next ≤ end → end < length bytes → length (drop (end + 1) bytes) + room < length (drop next bytes) + room
goes_behind bytes next end room begins within =
    let after : length (drop (end + 1) bytes) ≡ length bytes - (end + 1) = length-drop (end + 1) bytes in
    let before : length (drop next bytes) ≡ length bytes - next = length-drop next bytes in
    omega arith
