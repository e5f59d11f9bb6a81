use Rattle.{std.proofs.Common.◌∙◌, vb_device.proofs.LooseFrames.keeps_popped}
use Rattle.vb_device.proofs.device.Device.hand_back.Goals as goal

pub loop-frame-preserved : goal.loop-frame-preserved
loop-frame-preserved g c = record {
  gone = keeps_popped _ _ _ _ c.in-Some.frame c.loop-frame.invariant.gone c.in-Some.ensures.frame
      c.in_default-put_back.ensures.frame;
  mem = c.in_default-put_back.ensures.mem ∙ (c.in-Some.ensures.mem ∙ c.loop-frame.invariant.mem);
}
