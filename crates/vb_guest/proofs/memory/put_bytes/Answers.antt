use Rattle.std.{proofs.Common.{◌∙◌, ap, length, Err, refl}, specs.Prelude.{◌≡◌, ◌<◌, None}}
use Rattle.vb_ram.specs.{Pages.{frame_at, Covers}, declared.fault.RamFault.TheVariants.OutOfRam}
use Rattle.{vb_ram.specs.Part.Part, vb_guest.proofs.Exactly.{puts_outside, puts_there, puts_bare}}
use Rattle.vb_guest.proofs.{RogueMemory.{write_done_rogue, write_outside_rogue}, Kept.as_it_was}
use Rattle.vb_guest.proofs.Scribbles.{scribble_alone, scribble_outside}
use Rattle.vb_guest.proofs.WriteStep.{write_backed, write_outside, needs_frame, not_covered}
use Rattle.vb_guest.{proofs.Standing.{alone_stands, steps_quiet, stands_as}, specs.Supply.supply_of}
use Rattle.vb_guest.proofs.Filling.{bare_written, bare_scribbled}
use Rattle.vb_guest.proofs.memory.put_bytes.Goals as goal

pub returns-in-Ok : goal.returns-in-Ok
returns-in-Ok g c = let did = c.in-Ok.ensures in let same = as_it_was did.part in
    record {
      writes = λ d used keeps guest stands. rw (c.requires.none, ← c.as_slice.ensures)
          (steps_quiet stands (alone_stands stands same (λ honest. write_backed
          used honest did.covers (λ some bare. (let wrong = did.needs_frame did.covers
          some bare in cc)) did.bytes did.part) (λ rogue. write_done_rogue (λ some bare. (let
          wrong = did.needs_frame did.covers some bare in cc)) did.bytes did.part rogue)));
      scribbles = λ d keeps guest stands. rw (c.requires.none, ← c.as_slice.ensures)
          (steps_quiet stands (scribble_alone stands did.covers (λ
          some bare. (let wrong = did.needs_frame did.covers some bare in cc)) did.bytes did.part));
      exact = rw (← c.as_slice.ensures) (puts_there refl did.covers
          (λ some bare. (let wrong = did.needs_frame did.covers some bare in cc))
          did.bytes did.none_written did.part (ap (λ (p : Part). supply_of p
          (g.K.FrameKeeper.out c.args.keeper.now)) did.part) c.requires.none);
      quiet = λ none. refl;
      unasked = λ e. refl;
    }

pub put_fresh-requires : goal.put_fresh-requires
put_fresh-requires g c = let did = c.write.ensures in let here = c.in-Err-NeedsFrame.ensures in
    let found = needs_frame did.answers did.out_of_ram did.empty
    (c.in-Err-NeedsFrame.is ∙ ap Err c.in-Err-NeedsFrame.field-0-is) in
    record {
      covers = rw (here.unwritten, ← c.as_slice.ensures) found.0;
      some = rw (← c.as_slice.ensures) found.1;
      bare = rw here.unwritten found.2;
      none = c.requires.none;
    }

pub returns-in-Err-NeedsFrame : goal.returns-in-Err-NeedsFrame
returns-in-Err-NeedsFrame g c = let did = c.write.ensures in
    let found = needs_frame did.answers did.out_of_ram did.empty
    (c.in-Err-NeedsFrame.is ∙ ap Err c.in-Err-NeedsFrame.field-0-is) in
    let memory = c.in-Err-NeedsFrame.ensures.unwritten in
    let covers : Covers (g.D.GuestBytes.mem c.write.new.self) c.args.page c.args.offset
    (length c.args.bytes.now) = rw (memory, ← c.as_slice.ensures) found.0 in
    let some : 0 < length c.args.bytes.now = rw (← c.as_slice.ensures) found.1 in
    let bare : frame_at (g.D.GuestBytes.mem c.write.new.self) c.args.page ≡ None =
    rw memory found.2 in
    record {
      writes = λ d used keeps guest stands. rw (← c.write.ensures.part)
          (bare_written _ _ used (stands_as memory c.write.ensures.part stands)
          covers some bare c.put_fresh.ensures.exact);
      scribbles = λ d keeps guest stands. rw (← c.write.ensures.part) (bare_scribbled _ _ (stands_as
          memory c.write.ensures.part stands) covers some bare c.put_fresh.ensures.exact);
      exact = puts_bare _ (rw (← c.as_slice.ensures) found.0) (rw (← c.as_slice.ensures) found.1)
          found.2 c.in-Err-NeedsFrame.ensures.unwritten did.part c.put_fresh.ensures.exact;
      quiet = λ none. (let noted = c.put_fresh.ensures.exact.noted in cc);
      unasked = λ e. c.put_fresh.ensures.unasked (ap (λ (p : Part). p.keeps) did.part ∙ e);
    }

pub returns-in-Err-OutOfRam : goal.returns-in-Err-OutOfRam
returns-in-Err-OutOfRam g c = let did = c.write.ensures in let same = as_it_was did.part in
    let here = c.in-Err-OutOfRam.ensures in
    let outside = not_covered OutOfRam did.answers did.needs_frame did.empty
    (c.in-Err-OutOfRam.is ∙ ap Err c.in-Err-OutOfRam.field-0-is) (λ e. cc) in
    record {
      writes = λ d used keeps guest stands. rw (c.requires.none, ← c.as_slice.ensures)
          (steps_quiet stands (alone_stands stands same
          (λ honest. write_outside used honest here.unwritten did.part outside)
          (write_outside_rogue used here.unwritten did.part outside)));
      scribbles = λ d keeps guest stands. rw (c.requires.none, ← c.as_slice.ensures)
          (steps_quiet stands (scribble_outside stands here.unwritten did.part outside));
      exact = rw (← c.as_slice.ensures) (puts_outside outside refl (record {
        mem = here.unwritten;
        part = did.part;
        supply = ap (λ (p : Part). supply_of p (g.K.FrameKeeper.out c.args.keeper.now)) did.part;
        none = c.requires.none;
      }));
      quiet = λ none. refl;
      unasked = λ e. refl;
    }
