use Rattle.std.{proofs.Common.{◌≡◌, ◌∙◌, ◌+◌, ◌*◌, ◌<◌, ℕ, ap, arith}, specs.Prelude.slice_index}
use Rattle.vb_ram.{specs.Pages.{byte_at, field}, proofs.Outcome.at_ok}
use Rattle.vb_chain.{specs.Table.descriptor_at, proofs.TableLaws.same_parts}
use Rattle.vb_chain.proofs.ReadLaws.{field_first, field_after}
use Rattle.vb_chain.proofs.table.read_descriptor.Goals as goal

pub returns : goal.returns
unfolding descriptor_at
returns g c = let mem = g.G.GuestBytes.mem c.args.ram.now in
    let page = c.args.page in
    let at = 16 * c.from.result in
    let out = c.read.new.out in
    let here : at ≡ 16 * c.args.index = ap (λ n. 16 * n) c.from.ensures in
    let read : (k : ℕ) → k < 16 → slice_index out k ≡ byte_at mem page (at + k) =
    at_ok c.read.result _ c.read.ensures.bytes (c.read.ensures.answers
    (record { page = c.requires.page; bytes = omega (arith, here, c.requires.index) })) in
    same_parts _ _ (c.read_u64.ensures ∙ field_first 8 mem page at out read (omega arith)
    ∙ ap (field 8 mem page) here) (c.read_u32.ensures ∙ field_after 4 mem page at 8 8 out read
    (omega arith) (omega arith) ∙ ap (field 4 mem page) (omega (arith, here))) (c.read_u16.ensures
    ∙ field_after 2 mem page at 12 4 out read (omega arith) (omega arith) ∙ ap (field 2 mem page)
    (omega (arith, here))) (c.read_u16-2.ensures ∙ field_after 2 mem page at 14 2 out read
    (omega arith) (omega arith) ∙ ap (field 2 mem page) (omega (arith, here)))
