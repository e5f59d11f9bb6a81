use Rattle.{std.proofs.Common.{◌≡◌, drop}, vb_script.specs.Names.found_in}
use Rattle.vb_script.proofs.names.find.Given as goal

abbrev pub invariant-loop-name : goal.invariant-loop-name
invariant-loop-name g l = found_in (drop l.name-index l.table) l.word ≡ found_in l.table l.word
