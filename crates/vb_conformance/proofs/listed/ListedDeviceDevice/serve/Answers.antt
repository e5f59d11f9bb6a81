use Rattle.std.{proofs.Common.◌≡◌, specs.Prelude.{vec_capacity, length}}
use Rattle.vb_virtio.specs.Tests.{pages_where}
use Rattle.vb_conformance.specs.declared.listed.PageList.{PageList}
use Rattle.vb_conformance.proofs.PageLists.{serve_keeps, still_fits}
use Rattle.vb_conformance.proofs.listed.ListedDeviceDevice.serve.Goals as goal

pub make_anew-requires : goal.make_anew-requires
make_anew-requires c = still_fits (λ (list : PageList). list.pages)
    (λ (list : PageList). vec_capacity list.numbers) (λ (list : PageList). list.numbers.items
    ≡ pages_where (λ flag. flag) c.self.inside.inner.part.ballooned) c.self.inside.listed
    (length c.self.inside.inner.part.ballooned) (length c.serve-answer.new.self.part.ballooned)
    (serve_keeps c.args.queue _ _ c.self.inside.inner.part c.serve-answer.new.self.part _
    c.serve-answer.ensures) c.self.invariant
