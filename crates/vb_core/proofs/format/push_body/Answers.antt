use Rattle.std.proofs.Common.{[], ◌∷◌}
use Rattle.vb_core.specs.Format.{u32_bytes, u64_bytes, header_parts, settings_parts, ring_parts}
use Rattle.vb_core.specs.Format.{hold_parts, round_parts}
use Rattle.vb_core.specs.declared.format.TheConstants.{FORMAT_VERSION, SAVED_LENGTH}
use Rattle.vb_core.proofs.Rows.{joins, adds}
use Rattle.vb_core.proofs.format.push_body.Goals as goal

pub returns-clause-items : goal.returns-clause-items
returns-clause-items c = let s = c.args.saved.now in
    let d = s.device in
    let e1 = joins [] (header_parts FORMAT_VERSION SAVED_LENGTH) c.args.out.now.items _ (record { is = c.requires.empty })
    c.push_header.ensures.items in
    let e2 = joins _ (settings_parts d.settings) _ _ e1 c.push_settings.ensures.items in
    let e3 = adds _ (u64_bytes d.features) _ _ e2 c.push_u64.ensures.items in
    let e4 = adds _ (u32_bytes d.target) _ _ e3 c.push_u32.ensures.items in
    let e5 = adds _ (u32_bytes d.actual) _ _ e4 c.push_u32-2.ensures.items in
    let e6 = adds _ (u32_bytes s.held.statistics) _ _ e5 c.push_u32-3.ensures.items in
    let e7 = adds _ (d.status ∷ []) _ _ e6 c.push_u8.ensures.items in
    let e8 = joins _ (ring_parts d.inflate) _ _ e7 c.push_ring.ensures.items in
    let e9 = joins _ (ring_parts d.deflate) _ _ e8 c.push_ring-2.ensures.items in
    let e10 = joins _ (ring_parts d.statistics) _ _ e9 c.push_ring-3.ensures.items in
    let e11 = joins _ (ring_parts d.report) _ _ e10 c.push_ring-4.ensures.items in
    let e12 = adds _ (u32_bytes d.poison) _ _ e11 c.push_u32-4.ensures.items in
    let e13 = joins _ (hold_parts s) _ _ e12 c.push_holds.ensures.items in
    let e14 = joins _ (ring_parts d.hint) _ _ e13 c.push_ring-5.ensures.items in
    let e15 = joins _ (round_parts d.round) _ _ e14 c.push_round.ensures.items in
    let e16 = adds _ (d.settings.discards_hints ∷ []) _ _ e15 c.push_u8-2.ensures.items in e16.is
