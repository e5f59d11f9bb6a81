-- A slot represents its guest as it is plugged in.
use Rattle.std.specs.Prelude.{◌≡◌, ℕ, true, List, [], None, replicate, refl}
use Rattle.{std.proofs.Common.{sym, ◌∙◌, ap, subst}, vb_device.specs.Calls.{IsUnused, attached}}
use Rattle.vb_virtio.specs.Limits.{is_config}
use Rattle.vb_virtio.specs.Tests.{one_if}
use Rattle.vb_model.specs.Guest.{Guest, Config, fresh}
use Rattle.vb_ram.specs.{Pages.Pages, Part.Part, declared.config.Config.Config as Sizes}
use Rattle.{vb_device.specs.Own.has, vb_driver.specs.State.{DriverState, fresh_driver}}
use Rattle.vb_guest.{specs.Stands.{Honest, Stands}, proofs.Fresh.{backs_none, fresh_honest}}

pub fresh_stands : (m1 m2 : Pages) (p1 p2 : Part) (d : DriverState) (sizes : Sizes)
    → is_config sizes.pages sizes.queue_size sizes.processors ≡ true → IsUnused m1 p1
    → p1.own ≡ [] → m2 ≡ replicate sizes.pages None → p2 ≡ attached sizes p1
    → d ≡ fresh_driver sizes.pages sizes.queue_size sizes.processors
    → Stands p1.keeps m2 p2 d (fresh (record {
      pages = sizes.pages;
      queue_size = sizes.queue_size;
      processors = sizes.processors;
      paced = p1.paced;
    }) 0)
fresh_stands m1 m2 p1 p2 d sizes fits unused none m p new = let config : Config = record {
  pages = sizes.pages;
  queue_size = sizes.queue_size;
  processors = sizes.processors;
  paced = p1.paced;
} in
    let g : Guest = fresh config 0 in
    let there : Honest (replicate sizes.pages None) (attached sizes p1)
    (fresh_driver sizes.pages sizes.queue_size sizes.processors) g =
    fresh_honest config 0 (attached sizes p1) fits (record {
      size = refl;
      paced = refl;
      status = refl;
      features = refl;
      target = refl;
      actual = refl;
      ballooned = refl;
      last = refl;
      loose = unused.no_frames;
    }) in let own = ap (λ (x : Part). x.own) p ∙ none in record {
      guest = subst (λ (x : Pages). Honest x p2 d g) (sym m)
          (subst (λ (x : Part). Honest (replicate sizes.pages None) x d g) (sym p)
          (subst (λ (x : DriverState). Honest (replicate sizes.pages None) (attached sizes p1) x g)
          (sym new) there));
      own = record {
        flag = ap (λ (x : Part). x.keeps) p;
        none = λ e. own;
        each = λ e n. backs_none n sizes.pages ∙ ap (λ (l : List ℕ). one_if (has l n)) (sym own);
      };
    }
