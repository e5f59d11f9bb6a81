use Rattle.std.proofs.Common.{◌∙◌, List, Bool, length, ap, subst}
use Rattle.std.{proofs.Common.arith, specs.List.range_with_len}
use Rattle.vb_virtio.specs.Tests.{one_if, times}
use Rattle.vb_ram.specs.Pages.{Pages}
use Rattle.vb_ram.specs.Part.{Part}
use Rattle.vb_guest.specs.Supply.{Supply, supply_of, is_used, Moves, nothing}
use Rattle.vb_guest.proofs.{Moving.moves_as, Quiet.{no_frames, none_behind}, RestartStep.none_had}
use Rattle.vb_guest.proofs.lives.take_all_back.Goals as goal

pub return_loose-requires-clause-loose : goal.return_loose-requires-clause-loose
return_loose-requires-clause-loose g c n =
    let out : List Bool = g.K.FrameKeeper.out c.args.keeper.now in omega (
      arith,
      c.detach.ensures.loose n,
      c.requires.out n,
      ap (λ (p : Part). one_if (is_used (supply_of p out) n)) c.detach.ensures.part,
    )

pub returns-clause-moves : goal.returns-clause-moves
returns-clause-moves g c = let out : List Bool = g.K.FrameKeeper.out c.args.keeper.now in
    let after : Supply = supply_of (g.D.GuestBytes.part c.return_loose.new.device)
    (g.K.FrameKeeper.out c.return_loose.new.keeper) in
    let loose : List _ = (g.D.GuestBytes.part c.detach.new.self).loose in
    moves_as (subst (λ (s : Supply). Moves s after nothing (λ n. times n loose))
    (ap (λ (p : Part). supply_of p out) c.detach.ensures.part) c.return_loose.ensures.moves)
    (λ n. omega (arith, c.detach.ensures.loose n))

pub returns-clause-quiet : goal.returns-clause-quiet
returns-clause-quiet g c = λ kept.
    let mem : Pages = g.D.GuestBytes.mem c.args.device.now in
    let none = none_behind mem (range_with_len 0 (length mem))
    (none_had mem _ (c.return_loose.ensures.mem ∙ c.detach.ensures.memory) kept) in
    c.return_loose.ensures.quiet (no_frames _ (λ n. c.detach.ensures.loose n ∙ ap (times n) none))
