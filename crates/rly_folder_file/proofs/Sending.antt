-- A folder of the file system is Send if its host is.
use denote.RattleType.{RattleType}
use denote.Param.Send.{AllSend, IsSend, recorded_send, sendable, struct_send}
use denote.Struct.Declared.{Declared, shape}
use denote.Struct.Field.{rows}
use denote.Struct.Struct.{Struct}
use Rattle.std.proofs.Crossing.{crosses}
use Rattle.rly_folder_file.specs.contracts.file_folder.FileFolder as FileFolder
use Rattle.rly_folder_file.specs.contracts.limits.Limits as Limits
use Rattle.rly_folder_file.specs.contracts.root.Root as Root

root_send : (H : RattleType) → IsSend H → IsSend (Root.the_field H).row
root_send H h =
    let root : Declared = Root.the_type H in
    let fields : AllSend (rows root.parts) =
    (h, (search sendable depth 20, (search (sendable, crosses) depth 40, (search (sendable, crosses) depth 40, (search sendable depth 20, (search sendable depth 20, tt)))))) in
    struct_send (shape root) fields

limits_send : IsSend (Limits.the_field).row
limits_send = search (sendable, crosses) depth 60

pub file_folder_send : (H : RattleType) → IsSend H → IsSend (FileFolder.the_row H)
file_folder_send H h =
    let folder : Declared = FileFolder.the_type H in
    let fields : AllSend (rows folder.parts) = (
      root_send H h,
      (
        search (sendable, crosses) depth 40,
        (
          search sendable depth 20,
          (
            search (sendable, crosses) depth 40,
            (
              limits_send,
              (
                search (sendable, crosses) depth 40,
                (search (sendable, crosses) depth 40, (search (sendable, crosses) depth 60, (search (sendable, crosses) depth 60, (search (sendable, crosses) depth 40, tt)))),
              ),
            ),
          ),
        ),
      ),
    ) in
    recorded_send (Struct (shape folder)) folder.D folder.to folder.to_one (struct_send (shape folder) fields)
