use Rattle.vb_ram.proofs.Contents.{same_page_at}
use Rattle.vb_ram.proofs.laws.a_page_is_its_frame_and_bytes.Goals as goal

pub returns : goal.returns
returns c = same_page_at
