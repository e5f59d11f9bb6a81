use Rattle.std.proofs.{Common.{List, ℕ, ◌++◌, arith, length, take, drop}, lemmas.List.length-take}
use Rattle.vb_ram.proofs.Blanks.{length-shown}
use Rattle.vb_ram.proofs.frame.Frame.put.Goals as goal

pub returns-clause-whole : goal.returns-clause-whole
returns-clause-whole c =
    let all : List ℕ =
    c.put_bytes.new.old ++ drop (length c.put_bytes.new.old) c.hold.new.held.items in
    length-shown (take c.hold.new.held.len all)
    (omega (arith, length-take c.hold.new.held.len all, c.hold.ensures.holds.few))
