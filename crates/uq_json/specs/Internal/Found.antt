-- A value of the text, which is left out where it is too large.
use Rattle.std.specs.Prelude.{◌≡◌, ◌<◌, ◌≤◌, Option, Some, None, Result, Ok, Err}
use Rattle.std.specs.Borrow.{Bor}
use Rattle.uq_value.specs.Data.{Bytes, Data, Datas, Pairs, list}
use Rattle.uq_json.specs.Internal.LeftOut.{Stands}
use Rattle.uq_json.specs.declared.members.Members.{Members}
use Rattle.uq_json.specs.Grammar.{merged}
use Rattle.uq_value.specs.Size.{data_size, most_size}
use Rattle.uq_value.specs.Depth.{data_depth, most_depth}
use Rattle.uq_value.specs.Plain.{plain}
use Rattle.uq_value.specs.declared.value.Value.{Value}
use Rattle.uq_json.specs.Internal.Reading.{Read, Fails}
use Rattle.uq_json.specs.declared.error.JsonFault.{JsonFault}

-- the value that is kept for some data
abbrev pub StandsFor : Option Value → Data → Type 0
StandsFor (Some v) d = plain v ≡ d
StandsFor None d = most_size < data_size d

-- the list that is kept for some items
abbrev pub ListStandsFor : Option Datas → Datas → Type 0
ListStandsFor (Some kept) ds = (kept ≡ ds) × (data_depth (list kept) ≤ most_depth)
ListStandsFor None ds = most_size < data_size (list ds)

-- what a function answered is what reading gives, unless memory ran out
abbrev pub Finds : Result (Option Value × Bor Bytes) JsonFault → Read Data → Type 0
Finds (Ok x) read = (d : Data) × (read ≡ Ok (d, x.1.now)) × StandsFor x.0 d
Finds (Err e) read = Fails e read

abbrev pub FindsItems : Result (Option Datas × Bor Bytes) JsonFault → Read Datas → Type 0
FindsItems (Ok x) read = (ds : Datas) × (read ≡ Ok (ds, x.1.now)) × ListStandsFor x.0 ds
FindsItems (Err e) read = Fails e read

-- what is kept for the members of a text, of which a repeated one takes the place of the first
abbrev pub MembersStandFor : Members → Pairs → Type 0
MembersStandFor members ms = Stands members (merged ms)

abbrev pub FindsMembers : Result (Members × Bor Bytes) JsonFault → Read Pairs → Type 0
FindsMembers (Ok x) read = (ms : Pairs) × (read ≡ Ok (ms, x.1.now)) × MembersStandFor x.0 ms
FindsMembers (Err e) read = Fails e read

-- a member's name and the value that is kept
abbrev pub FindsMember : {N : Type 0} → (N → Bytes) → Result (N × Option Value × Bor Bytes) JsonFault → Read (Bytes × Data) → Type 0
FindsMember view (Ok x) read = (m : Bytes × Data) × (read ≡ Ok (m, x.2.now)) × (view x.0 ≡ m.0) × StandsFor x.1 m.1
FindsMember view (Err e) read = Fails e read
