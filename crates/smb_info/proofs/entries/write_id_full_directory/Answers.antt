use Rattle.smb_info.specs.Directory.{seen, IsEntryReadAgain}
use Rattle.smb_info.proofs.EntryWriting.{entry-read_again, entry-listed}
use Rattle.smb_info.proofs.entries.write_id_full_directory.Goals as goal

pub returns-in-Ok : goal.returns-in-Ok
returns-in-Ok c =
    let again : IsEntryReadAgain (seen c.args.x.now) = entry-read_again (seen c.args.x.now) c.requires.placed c.in-Ok.ensures.ok.1 in
    (c.in-Ok.ensures.ok.0, again, entry-listed c.args.x.now c.requires.placed again)
