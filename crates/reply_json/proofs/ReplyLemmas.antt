-- Every reply reads back, form by form.
use Rattle.std.proofs.Common.{◌≡◌, ℕ, suc, Bool, List, [], Option, Some, None, slice_index}
use Rattle.serde_json.specs.Data.{Data, string}
use Rattle.reply_json.specs.Fits.{NumbersFit}
use Rattle.reply_json.specs.Values.{number_of, or_null, pair_of, id_data, snapshot_text, sector_data, digits_data, disturbed_data}
use Rattle.reply_json.specs.Reply.{area_data, check_data, host_data, vm_data, guest_data, migration_data, refused_members, members_of, reply_data}
use Rattle.reply_json.specs.declared.reply.Area.{Area}
use Rattle.reply_json.specs.declared.reply.CheckLine.{CheckLine}
use Rattle.reply_json.specs.declared.reply.HostLine.{HostLine}
use Rattle.reply_json.specs.declared.reply.VmLine.{VmLine}
use Rattle.reply_json.specs.declared.reply.GuestDone.{GuestDone}
use Rattle.reply_json.specs.declared.reply.MigLine.{MigLine}
use Rattle.reply_json.specs.declared.reply.Carried.{Carried}
use Rattle.reply_json.specs.declared.reply.Carried.TheVariants.{Nothing, Name, Vm, Cause, Id}
use Rattle.reply_json.specs.declared.reply.Reply.{Reply}
use Rattle.reply_json.specs.declared.reply.Reply.TheVariants.{Done, Moved, Number, Snapshot, Query, Sectors, Inventory, Started, Ran, Status, Digest, Records, Refused}
use Rattle.change_id.specs.declared.ChangeId.{ChangeId}
use Rattle.reply_json.proofs.ReadLemmas.{Reads, boolean_reads, string_reads, number_reads, or_null_reads, either_reads, array_reads, pair_reads, ended, and, object_reads}

id_reads : {b : ℕ} (id : ChangeId) → NumbersFit (id_data id) → Reads b (id_data id)
id_reads id = string_reads _

sector_reads : {b : ℕ} (bytes : List ℕ) → NumbersFit (sector_data bytes)
    → Reads b (sector_data bytes)
sector_reads bytes = either_reads _ _ _ (number_reads _) (string_reads _)

disturbed_reads : {b : ℕ} (refusal : Option (List ℕ)) → NumbersFit (disturbed_data refusal)
    → Reads b (disturbed_data refusal)
disturbed_reads None = boolean_reads _
disturbed_reads (Some refusal) = string_reads refusal

area_reads : (area : Area) → NumbersFit (area_data area) → Reads 3 (area_data area)
area_reads area = pair_reads {b = 2} _ _ (number_reads area.start) (number_reads area.length)

check_reads : (check : CheckLine) → NumbersFit (check_data check) → Reads 1 (check_data check)
check_reads check = pair_reads {b = 0} _ _ (string_reads _) (string_reads _)

host_reads : (host : HostLine) → NumbersFit (host_data host) → Reads 3 (host_data host)
host_reads host = object_reads {b = 2}
    (and (number_reads host.limit) (and (string_reads host.name) ended))

vm_reads : (vm : VmLine) → NumbersFit (vm_data vm) → Reads 3 (vm_data vm)
vm_reads vm = object_reads {b = 2} (
    and (array_reads {b = 1} number_of number_reads vm.disks) (
    and (string_reads vm.host) (
    and (string_reads vm.name) (
    and (number_reads vm.number) (
    and (boolean_reads vm.on) (
    and (boolean_reads vm.tracking)
    ended))))))

guest_reads : (guest : GuestDone) → NumbersFit (guest_data guest) → Reads 3 (guest_data guest)
guest_reads guest = object_reads {b = 2} (
    and (number_reads guest.accepted) (
    and (string_reads guest.stopped) (
    and (string_reads guest.vm)
    ended)))

migration_reads : (line : MigLine) → NumbersFit (migration_data line)
    → Reads 3 (migration_data line)
migration_reads line = object_reads {b = 2} (
    and (or_null_reads string string_reads line.cause) (
    and (array_reads {b = 1} check_data check_reads line.checkpoints) (
    and (string_reads line.dv) (
    and (array_reads {b = 1} number_of number_reads line.marks) (
    and (number_reads line.mig) (
    and (string_reads line.phase) (
    and (or_null_reads number_of number_reads line.place) (
    and (string_reads line.plan) (
    and (string_reads line.state) (
    and (string_reads line.vm) (
    and (or_null_reads number_of number_reads line.writes) (
    and (array_reads {b = 1} number_of number_reads line.written)
    ended))))))))))))

pub reply_reads : (reply : Reply) → NumbersFit (reply_data reply) → Reads 5 (reply_data reply)
reply_reads Done = object_reads {b = 4} (and (boolean_reads _) ended)
reply_reads (Moved writes written) = object_reads {b = 4} (
    and (boolean_reads _)
    (and (string_reads _) (and (number_reads writes) (and (number_reads written) ended))))
reply_reads (Number number) =
    object_reads {b = 4} (and (number_reads number) (and (boolean_reads _) ended))
reply_reads (Snapshot snapshot ids) = object_reads {b = 4} (
    and (array_reads {b = 3} _ (or_null_reads id_data id_reads) ids)
    (and (boolean_reads _) (and (number_reads snapshot) ended)))
reply_reads (Query areas id start len) = object_reads {b = 4} (
    and (array_reads {b = 3} area_data area_reads areas) (
    and (or_null_reads id_data id_reads id) (
    and (number_reads len) (and (boolean_reads _) (and (number_reads start) ended)))))
reply_reads (Sectors sectors) = object_reads {b = 4} (
    and (boolean_reads _) (and (array_reads {b = 3} sector_data sector_reads sectors) ended))
reply_reads (Inventory hosts vms) = object_reads {b = 4} (
    and (array_reads {b = 3} host_data host_reads hosts) (
    and (boolean_reads _) (and (array_reads {b = 3} vm_data vm_reads vms) ended)))
reply_reads (Started migrations) = object_reads {b = 4} (
    and (array_reads {b = 3} number_of number_reads migrations) (and (boolean_reads _) ended))
reply_reads (Ran disturbed guests migrations peaks) = object_reads {b = 4} (
    and (array_reads {b = 3} disturbed_data disturbed_reads disturbed) (
    and (array_reads {b = 3} guest_data guest_reads guests) (
    and (array_reads {b = 3} migration_data migration_reads migrations) (
    and (boolean_reads _) (
    and (array_reads {b = 3} number_of number_reads peaks)
    ended)))))
reply_reads (Status migrations) = object_reads {b = 4} (
    and (array_reads {b = 3} migration_data migration_reads migrations)
    (and (boolean_reads _) ended))
reply_reads (Digest digest sectors) = object_reads {b = 4} (
    and (string_reads _) (and (boolean_reads _) (and (number_reads sectors) ended)))
reply_reads (Records records) =
    object_reads {b = 4} (and (boolean_reads _) (and (number_reads records) ended))
reply_reads (Refused error Nothing) =
    object_reads {b = 4} (and (string_reads error) (and (boolean_reads _) ended))
reply_reads (Refused error (Name name)) = object_reads {b = 4} (
    and (string_reads error) (and (string_reads name) (and (boolean_reads _) ended)))
reply_reads (Refused error (Vm vm)) = object_reads {b = 4} (
    and (string_reads error) (and (boolean_reads _) (and (string_reads vm) ended)))
reply_reads (Refused error (Cause cause)) = object_reads {b = 4} (
    and (string_reads cause) (and (string_reads error) (and (boolean_reads _) ended)))
reply_reads (Refused error (Id id)) = object_reads {b = 4} (
    and (string_reads error)
    (and (or_null_reads id_data id_reads id) (and (boolean_reads _) ended)))
