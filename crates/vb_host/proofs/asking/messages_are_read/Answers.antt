use Rattle.vb_host.proofs.Said.{grants_stay, messages_are_snapshots, new_asks_count, reads_raise}
use Rattle.vb_host.proofs.asking.messages_are_read.Goals as goal

pub returns : goal.returns
returns c = record { grants = grants_stay; asks = new_asks_count; reads = reads_raise; snapshots = messages_are_snapshots }
