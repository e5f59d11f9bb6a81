use Rattle.std.proofs.Common.{◌∙◌, sym, ap, subst}
use Rattle.vb_virtio.specs.Layout.{reserved_pages}
use Rattle.vb_ram.specs.declared.shape.Shape.{Shape}
use Rattle.vb_driver.{specs.State.IsDriver, proofs.{Resetting.fresh_kept, Restarting.restarted}}
use Rattle.vb_driver.proofs.driver.Driver.restart.Goals as goal

pub invariant_of-self : goal.invariant_of-self
invariant_of-self g c = let d = c.reset.ensures.driver in subst IsDriver
    (sym (restarted c.args.self.now c.self.invariant
    (c.self.view_is ∙ c.reset.ensures.state) (c.reserved_pages.ensures ∙ ap (λ
    (s : Shape). reserved_pages s.queue_size) c.shape.ensures) c.renew.ensures c.renew-2.ensures))
    (fresh_kept c.args.self.now.pages c.args.self.now.processors 0 d.least d.most d.size)

pub returns-clause-driver : goal.returns-clause-driver
returns-clause-driver g c = restarted c.args.self.now
    c.self.invariant (c.self.view_is ∙ c.reset.ensures.state) (c.reserved_pages.ensures ∙ ap
    (λ (s : Shape). reserved_pages s.queue_size) c.shape.ensures) c.renew.ensures c.renew-2.ensures
