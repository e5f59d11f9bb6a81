use Rattle.std.proofs.Common.{rules, ◌≡◌, ◌∷◌, [], ◌++◌, Some, slice_get, ap, sym, ◌∙◌, length}
use Rattle.{std.proofs.lemmas.Option.slice_get-get_or, vb_run.specs.Past.IsScript}
use Rattle.vb_run.proofs.{Lists.{each_push, some_same}, Starting.{begun_push, script_at}}
use Rattle.vb_run.proofs.run.scripts_of.Goals as goal

pub loop-own-preserved : goal.loop-own-preserved
loop-own-preserved c =
    let at : slice_get c.args.calls.now c.loop-own.own-index ≡ Some c.own-item.result =
    slice_get-get_or c.args.calls.now c.loop-own.own-index c.own-item.result (search rules)
    ∙ ap Some (search rules) in
    let own : IsScript (length c.loop-own.scripts.items) c.own-item.result.items =
    rw c.loop-own.invariant.made
    (script_at c.args.calls.now c.loop-own.own-index c.own-item.result c.requires at) in
    let made : c.push.new.self.items ≡ c.loop-own.scripts.items
    ++ record { calls = c.own-item.result.items; place = 0 } ∷ [] = search rules in
    record {
      made = search rules;
      begun = rw made (begun_push c.loop-own.scripts.items c.own-item.result.items
          c.loop-own.invariant.begun own);
      calls = rw made (λ cpu s calls there its.
          each_push (λ n x. (other : _) → slice_get c.args.calls.now n ≡ Some other
          → x.calls ≡ other.items) c.loop-own.scripts.items
          (record { calls = c.own-item.result.items; place = 0 })
          (λ n x here other is. c.loop-own.invariant.calls n x other here is)
          (rw c.loop-own.invariant.made (λ other is.
          ap (λ v. v.items) (some_same c.own-item.result other (sym at ∙ is)))) cpu s there calls its);
    }

pub returns-clause-calls : goal.returns-clause-calls
returns-clause-calls c = (c.loop-own.invariant.made ∙ (search rules), c.loop-own.invariant.calls)
