-- From a reply to its members, which stand in ascending order of the bytes of their names, and from
-- members to the bytes of the line: the compact text of JSON, and a line feed.
use Rattle.std.specs.Prelude.{ℕ, true, false, List, [], ◌∷◌, ◌++◌, codes}
use Rattle.serde_json.specs.Data.{Data, boolean, string, object, Members, no_members, member}
use Rattle.serde_json.specs.Written.{compact_text}
use Rattle.reply_json.specs.Values.{number_of, or_null, array_of, pair_of, id_data, snapshot_text, sector_data, digits_data, disturbed_data}
use Rattle.reply_json.specs.declared.reply.Area.{Area}
use Rattle.reply_json.specs.declared.reply.CheckLine.{CheckLine}
use Rattle.reply_json.specs.declared.reply.HostLine.{HostLine}
use Rattle.reply_json.specs.declared.reply.VmLine.{VmLine}
use Rattle.reply_json.specs.declared.reply.GuestDone.{GuestDone}
use Rattle.reply_json.specs.declared.reply.MigLine.{MigLine}
use Rattle.reply_json.specs.declared.reply.Carried.{Carried}
use Rattle.reply_json.specs.declared.reply.Carried.TheVariants.{Nothing, Name, Vm, Cause, Id}
use Rattle.reply_json.specs.declared.reply.Reply.{Reply}
use Rattle.reply_json.specs.declared.reply.Reply.TheVariants.{Done, Moved, Number, Snapshot, Query, Sectors, Inventory, Started, Ran, Status, Digest, Records, Refused}

abbrev pub area_data : Area → Data
area_data area = pair_of (number_of area.start) (number_of area.length)

abbrev pub check_data : CheckLine → Data
check_data check =
    pair_of (string (snapshot_text check.previous)) (string (snapshot_text check.current))

abbrev pub host_data : HostLine → Data
host_data host = object (
    member (codes "limit") (number_of host.limit) (
    member (codes "name") (string host.name)
    no_members))

abbrev pub vm_data : VmLine → Data
vm_data vm = object (
    member (codes "disks") (array_of number_of vm.disks) (
    member (codes "host") (string vm.host) (
    member (codes "name") (string vm.name) (
    member (codes "number") (number_of vm.number) (
    member (codes "on") (boolean vm.on) (
    member (codes "tracking") (boolean vm.tracking)
    no_members))))))

abbrev pub guest_data : GuestDone → Data
guest_data guest = object (
    member (codes "accepted") (number_of guest.accepted) (
    member (codes "stopped") (string guest.stopped) (
    member (codes "vm") (string guest.vm)
    no_members)))

abbrev pub migration_data : MigLine → Data
migration_data line = object (
    member (codes "cause") (or_null string line.cause) (
    member (codes "checkpoints") (array_of check_data line.checkpoints) (
    member (codes "dv") (string line.dv) (
    member (codes "marks") (array_of number_of line.marks) (
    member (codes "mig") (number_of line.mig) (
    member (codes "phase") (string line.phase) (
    member (codes "place") (or_null number_of line.place) (
    member (codes "plan") (string line.plan) (
    member (codes "state") (string line.state) (
    member (codes "vm") (string line.vm) (
    member (codes "writes") (or_null number_of line.writes) (
    member (codes "written") (array_of number_of line.written)
    no_members))))))))))))

-- a refusal with what it carries
abbrev pub refused_members : (error : List ℕ) → Carried → Members
refused_members error Nothing =
    member (codes "error") (string error) (
    member (codes "ok") (boolean false)
    no_members)
refused_members error (Name name) =
    member (codes "error") (string error) (
    member (codes "name") (string name) (
    member (codes "ok") (boolean false)
    no_members))
refused_members error (Vm vm) =
    member (codes "error") (string error) (
    member (codes "ok") (boolean false) (
    member (codes "vm") (string vm)
    no_members))
refused_members error (Cause cause) =
    member (codes "cause") (string cause) (
    member (codes "error") (string error) (
    member (codes "ok") (boolean false)
    no_members))
refused_members error (Id id) =
    member (codes "error") (string error) (
    member (codes "id") (or_null id_data id) (
    member (codes "ok") (boolean false)
    no_members))

abbrev pub members_of : Reply → Members
members_of Done =
    member (codes "ok") (boolean true)
    no_members
members_of (Moved writes written) =
    member (codes "ok") (boolean true) (
    member (codes "state") (string (codes "complete")) (
    member (codes "writes") (number_of writes) (
    member (codes "written") (number_of written)
    no_members)))
members_of (Number number) =
    member (codes "number") (number_of number) (
    member (codes "ok") (boolean true)
    no_members)
members_of (Snapshot snapshot ids) =
    member (codes "ids") (array_of (or_null id_data) ids) (
    member (codes "ok") (boolean true) (
    member (codes "snapshot") (number_of snapshot)
    no_members))
members_of (Query areas id start len) =
    member (codes "areas") (array_of area_data areas) (
    member (codes "id") (or_null id_data id) (
    member (codes "length") (number_of len) (
    member (codes "ok") (boolean true) (
    member (codes "start") (number_of start)
    no_members))))
members_of (Sectors sectors) =
    member (codes "ok") (boolean true) (
    member (codes "sectors") (array_of sector_data sectors)
    no_members)
members_of (Inventory hosts vms) =
    member (codes "hosts") (array_of host_data hosts) (
    member (codes "ok") (boolean true) (
    member (codes "vms") (array_of vm_data vms)
    no_members))
members_of (Started migrations) =
    member (codes "migrations") (array_of number_of migrations) (
    member (codes "ok") (boolean true)
    no_members)
members_of (Ran disturbed guests migrations peaks) =
    member (codes "disturbed") (array_of disturbed_data disturbed) (
    member (codes "guests") (array_of guest_data guests) (
    member (codes "migrations") (array_of migration_data migrations) (
    member (codes "ok") (boolean true) (
    member (codes "peaks") (array_of number_of peaks)
    no_members))))
members_of (Status migrations) =
    member (codes "migrations") (array_of migration_data migrations) (
    member (codes "ok") (boolean true)
    no_members)
members_of (Digest digest sectors) =
    member (codes "digest") (digits_data digest) (
    member (codes "ok") (boolean true) (
    member (codes "sectors") (number_of sectors)
    no_members))
members_of (Records records) =
    member (codes "ok") (boolean true) (
    member (codes "records") (number_of records)
    no_members)
members_of (Refused error carried) = refused_members error carried

-- the object that a reply means
abbrev pub reply_data : Reply → Data
reply_data reply = object (members_of reply)

-- the bytes of a reply's line
abbrev pub line_of : Reply → List ℕ
line_of reply = compact_text (reply_data reply) ++ 10 ∷ []
