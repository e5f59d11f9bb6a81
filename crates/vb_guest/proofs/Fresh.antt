-- A guest as it is plugged in, or as a new life begins.
use Rattle.std.specs.Prelude.{◌≡◌, ℕ, true, false, None, zero, suc, replicate, slice_index_or, refl}
use Rattle.{std.specs.Prelude.count_by, vb_ram.{proofs.Contents.length-zero_page, specs.Part.Part}}
use Rattle.std.proofs.{Common.arith, lemmas.List.{length-replicate, get_or-replicate, get_or_past}}
use Rattle.vb_virtio.specs.Limits.{is_config}
use Rattle.vb_virtio.specs.Statistics.{no_statistics}
use Rattle.vb_virtio.specs.Memory.{zero_page}
use Rattle.vb_virtio.proofs.Tables.{count_by-cons}
use Rattle.vb_model.specs.Guest.{fresh}
use Rattle.vb_driver.specs.State.{fresh_driver}
use Rattle.vb_model.specs.Guest.{Config}
use Rattle.vb_model.proofs.{LifeSteps.fresh_consistent, OrderlySteps.fresh_order}
use Rattle.vb_guest.specs.{Stands.{Honest, DeviceKeeps, HasPages}, Steps.is_frame}

-- a list of one element has it everywhere
pub everywhere : {A : Type 0} (n : ℕ) (x : A) (p : ℕ) → slice_index_or (replicate n x) p x ≡ x
everywhere {A} n x p = grind (arith, get_or-replicate, get_or_past, length-replicate)

-- no page has a frame, and each holds zeros
bare_pages : (size n : ℕ)
    → HasPages (replicate n None) size n (replicate n None) (replicate n zero_page)
bare_pages size n = grind (arith, length-replicate, everywhere, get_or-replicate, length-zero_page)

-- no page has the frame
pub backs_none : (f n : ℕ) → count_by (is_frame f) (replicate n None) ≡ 0
backs_none f zero = refl
backs_none f (suc n) =
    omega (arith, count_by-cons (is_frame f) None (replicate n None), backs_none f n)

-- a fresh driver, and a device of which nothing was asked yet
pub fresh_honest : (c : Config) (wanted : ℕ) (part : Part)
    → is_config c.pages c.queue_size c.processors ≡ true
    → DeviceKeeps part c 0 0 wanted 0 (replicate c.pages false) no_statistics → Honest
    (replicate c.pages None) part (fresh_driver c.pages c.queue_size c.processors) (fresh c wanted)
fresh_honest c wanted part fits device =
    grind (arith, bare_pages c.queue_size c.pages, fresh_consistent c wanted, fresh_order c wanted)
