use Rattle.std.proofs.Common.{◌≡◌, ◌≢◌, ◌∙◌, sym, ap, ◌+◌, ◌*◌, ℕ, length, arith, inl, inr}
use Rattle.std.{specs.Prelude.{slice_index, slice_index_or, nat_lt}, proofs.lemmas.List.get_or_past}
use Rattle.std.proofs.lemmas.Bool.{cases_eq, cases_lt}
use Rattle.vb_ram.proofs.FieldLaws.{same_below, same_above, but_trans, but_wider}
use Rattle.vb_chain.{specs.Table.descriptor_at, proofs.TableLaws.descriptor_kept}
use Rattle.vb_chain.{specs.Written.{linked, link_to, empty}, proofs.ChainLaws.written_chain}
use Rattle.vb_chain.proofs.written.write_chain.Goals.{then-k-path, else-k-path}
use Rattle.vb_chain.proofs.written.write_chain.Goals as goal

pub loop-k-preserved : goal.loop-k-preserved
loop-k-preserved g c = let old = g.G.GuestBytes.mem c.loop-k.ram in
    let new = g.G.GuestBytes.mem c.write_descriptor.new.ram in
    let t = c.args.table in
    let path = c.args.path.now in
    let k = c.loop-k.k in
    let at = slice_index path k in
    let alone : (i : ℕ) → i ≢ at
    → descriptor_at new t i ≡ descriptor_at old t i = λ i ne. elim (cases_lt i at) [
      | inl low ↦ descriptor_kept old new t i
          (same_below old new t _ _ _ _ c.write_descriptor.ensures.rest (omega (arith, low)))
      | inr high ↦ descriptor_kept old new t i
          (same_above old new t _ _ _ _ c.write_descriptor.ensures.rest (omega (arith, high, ne)))
    ] in
    let next : c.if-k-path.next ≡ slice_index path (k + 1) = elim c.if-k-path.branch [
      | then-k-path w ↦ w.next-is
      | else-k-path w ↦ w.next-is ∙ sym (get_or_past path (k + 1) 0 (omega arith))
    ] in
    let inside = c.requires.route.inside k (omega arith) in
    let piece = slice_index_or c.args.pieces.now k empty in record {
      put = λ j h. elim (cases_eq j k) [
        | inl same ↦ ap (λ n. descriptor_at new t (slice_index path n)) same
            ∙ c.write_descriptor.ensures.put ∙ ap (λ (f : ℕ). record
            { addr = piece.addr; len = piece.len; flags = f; next = c.if-k-path.next })
            c.flags_of-flags.ensures ∙ ap (link_to piece (nat_lt (k + 1) (length path))) next
            ∙ ap (linked path c.args.pieces.now) (sym same)
        | inr ne ↦ alone (slice_index path j)
            (c.requires.route.apart j k (omega (arith, ne)) (omega arith))
            ∙ c.loop-k.invariant.put j (omega (arith, ne))
      ];
      others = λ i h. alone i (λ e. h k (omega arith) (sym e)) ∙ c.loop-k.invariant.others i h;
      part = c.write_descriptor.ensures.part ∙ c.loop-k.invariant.part;
      rest = but_trans _ old new t 0 (16 * c.args.size) c.loop-k.invariant.rest
          (but_wider old new t _ _ 0 (16 * c.args.size) c.write_descriptor.ensures.rest
          (omega arith) (omega (arith, inside)));
    }

pub returns-clause-chain : goal.returns-clause-chain
returns-clause-chain g c sound short = grind (arith, written_chain)
