use Rattle.smb_head.proofs.HeadLaws.{head_of-header}
use Rattle.smb_head.proofs.head.write_head.Goals as goal

pub returns-in_err-extend_from_slice-clause-read_again : goal.returns-in_err-extend_from_slice-clause-read_again
returns-in_err-extend_from_slice-clause-read_again c = λ rest. head_of-header c.args.head.now rest c.header_bytes.ensures.fits c.requires

pub returns-clause-read_again : goal.returns-clause-read_again
returns-clause-read_again c = λ rest. head_of-header c.args.head.now rest c.header_bytes.ensures.fits c.requires
