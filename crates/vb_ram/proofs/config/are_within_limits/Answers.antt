use Rattle.std.proofs.Common.{◌∙◌, ap, ◌%◌, Bool, ◌==◌, ◌&&◌}
use Rattle.vb_virtio.specs.Limits.{is_between, is_power_of_two}
use Rattle.vb_ram.proofs.config.are_within_limits.Goals as goal

pub returns : goal.returns
returns c = let pages = is_between 64 65536 c.args.pages && (c.args.pages % 16 == 0) in
    let queue = is_between 2 256 c.args.queue_size && is_power_of_two c.args.queue_size in
    ap (λ (b : Bool). b && (c.is_queue_size-queue_fits.result && c.is_between-processors_fit.result)) c.are_guest_pages-pages_fit.ensures
    ∙ ap (λ (b : Bool). pages && (b && c.is_between-processors_fit.result)) c.is_queue_size-queue_fits.ensures
    ∙ ap (λ (b : Bool). pages && (queue && b)) c.is_between-processors_fit.ensures
