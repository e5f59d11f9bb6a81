use Rattle.vb_virtio.specs.Layout.{reserved_pages}
use Rattle.std.proofs.Common.{◌≡◌, ◌∙◌, arith, ap, ℕ}
use Rattle.{vb_model.specs.Pages.all_free, vb_ram.specs.declared.shape.Shape.Shape}
use Rattle.vb_ram.{specs.Limits.AreWithinLimits, proofs.Limits.config_limits}
use Rattle.{vb_status.specs.Bits.feature_bits, vb_pages.specs.PageState.new_page_state}
use Rattle.vb_driver.specs.State.{DriverState, fresh_driver, IsDriver, fresh_side, fresh_statistics}
use Rattle.vb_driver.{specs.State.fresh_report, proofs.{Resetting.fresh_kept, Sizes.size_of_config}}
use Rattle.vb_driver.proofs.driver.Driver.new.Goals as goal

pub new_pages-requires-clause-size : goal.new_pages-requires-clause-size
new_pages-requires-clause-size c = grind (arith, config_limits)

pub new_pages-requires-clause-some : goal.new_pages-requires-clause-some
new_pages-requires-clause-some c = grind (arith, config_limits)

pub new_pages-requires-clause-most : goal.new_pages-requires-clause-most
new_pages-requires-clause-most c = grind (arith, config_limits)

pub new_queues-requires : goal.new_queues-requires
new_queues-requires c = grind (arith, size_of_config)

pub invariant_of-result : goal.invariant_of-result
invariant_of-result c = let pages = c.args.config.pages in let size = c.args.config.queue_size in
    let cpus = c.args.config.processors in let deflate = c.in_ok-inflate.deflate in let f = feature_bits c.empty.result in
    let limits : AreWithinLimits pages size cpus = config_limits pages size cpus c.requires in
    let same : c.shape-shape.result.queue_size ≡ size =
    ap (λ (s : Shape). s.queue_size) c.shape-shape.ensures in
    let few : c.reserved_pages-reserved.result ≡ reserved_pages size =
    c.reserved_pages-reserved.ensures ∙ ap reserved_pages same in
    let d : DriverState = record (fresh_driver pages size cpus) { features = f } in
    let kept : IsDriver d = fresh_kept pages cpus f limits.pages_least limits.pages_most
    (size_of_config pages cpus c.requires) in rw (c.in_ok-places.ensures.places
    ∙ ap (λ (n : ℕ). all_free n pages) few) (rw (c.in_ok-places.ensures.areas ∙ ap
    (new_page_state pages cpus) few) (rw (c.in_ok-inflate.ensures.inflate ∙ ap (fresh_side 0) same)
    (rw (c.in_ok-inflate.ensures.deflate ∙ ap (fresh_side 1) same) (rw (c.new.ensures
    ∙ ap fresh_statistics same) (rw (c.new-2.ensures ∙ ap fresh_report same) kept)))))
