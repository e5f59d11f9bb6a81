use Rattle.std.proofs.Common.{◌∙◌, ◌<◌, ap, refl, subst, false, ℕ, List}
use Rattle.vb_monitor.specs.Accesses.{Makes}
use Rattle.vb_monitor.specs.Notices.{Serves}
use Rattle.vb_monitor.specs.declared.{regions.Region.Region, outcome.Budget.Budget}
use Rattle.vb_served.specs.One.{all_of}
use Rattle.vb_served.specs.Store.{After}
use Rattle.vb_served.proofs.NextLemmas.{next_so}
use Rattle.vb_served.proofs.one.serve_one.Goals as goal

abbrev one_chain : Budget
one_chain = record { chains = 1; pages = 1; keeps = false; longest = 256 }

pub returns : goal.returns
returns c = next_so c.args.kind one_chain c.args.device.now c.serve.new.device
    c.serve.result c.args.memory.now c.serve.new.memory refl refl refl refl
    (record { end = c.requires.end; holds = c.requires.holds })
    (subst (λ (n : ℕ). n < 65536) c.taken_so_far-taken.ensures.is c.taken_so_far-taken.ensures.few)
    (subst (λ (rs : List Region). Makes After c.args.memory.now c.serve.new.memory (Serves rs
    c.args.kind one_chain c.args.device.now c.serve.new.device c.serve.result))
    (c.whole_memory-regions.ensures ∙ ap all_of c.pages.ensures) c.serve.ensures)
