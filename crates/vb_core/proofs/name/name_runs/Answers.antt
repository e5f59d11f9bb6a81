use Rattle.std.proofs.Common.{◌≡◌, ◌∙◌, ◌+◌, ◌<◌, ◌/◌, Some, None, true, false, length, get_or}
use Rattle.std.proofs.{Common.{take, sym, arith, rules}, lemmas.List.take_all}
use Rattle.vb_request.proofs.Once.{numbers_of-length, numbers_of-at}
use Rattle.vb_request.specs.Request.{number_fault, numbers_of}
use Rattle.vb_core.proofs.name.name_runs.Goals.{in-None, in-Some+else-not-limits}
use Rattle.vb_core.proofs.NameLemmas.{more_named, more_skipped, same_named, names_fault}
use Rattle.vb_core.proofs.name.name_runs.Goals as goal

pub returns-then-not-limits : goal.returns-then-not-limits
returns-then-not-limits c =
    let inside : c.loop-k.k < length c.args.bytes.now / 4 = omega (arith, c.loop-k-test.true) in
    let lt : c.loop-k.k < length (numbers_of c.args.bytes.now) =
    omega (arith, inside, numbers_of-length c.args.bytes.now) in
    let at : get_or (numbers_of c.args.bytes.now) c.loop-k.k 0 ≡ c.number_at-number.result =
    numbers_of-at c.args.bytes.now c.loop-k.k inside ∙ sym c.number_at-number.ensures in
    let wrong : number_fault c.args.limits.reserved c.args.limits.count c.number_at-number.result ≡
    Some c.in-Some.fault = sym c.in-Some.ensures in
    let stays : c.args.limits.skips ≡ false = search rules in
    names_fault c.args.limits.skips c.args.limits.reserved c.args.limits.count
    (numbers_of c.args.bytes.now) c.loop-k.k c.number_at-number.result c.in-Some.fault
    c.loop-k.runs lt at wrong stays c.loop-k.invariant.named.sound

pub loop-k-preserved : goal.loop-k-preserved
loop-k-preserved c =
    let inside : c.loop-k.k < length c.args.bytes.now / 4 = omega (arith, c.loop-k-test.true) in
    let lt : c.loop-k.k < length (numbers_of c.args.bytes.now) =
    omega (arith, inside, numbers_of-length c.args.bytes.now) in
    let at : get_or (numbers_of c.args.bytes.now) c.loop-k.k 0 ≡ c.number_at-number.result =
    numbers_of-at c.args.bytes.now c.loop-k.k inside ∙ sym c.number_at-number.ensures in
    elim c.match-number_fault.branch [
      | in-None w ↦
          let right : number_fault c.args.limits.reserved c.args.limits.count
          c.number_at-number.result ≡ None = sym w.in-None.ensures in
          let short : c.loop-k.k < 4294967295 = omega (arith, inside, c.requires.few) in
          let told = w.add_page-used.ensures.told in
          let before = c.loop-k.invariant.named in
          record {
            named = same_named c.args.limits.skips c.args.limits.reserved c.args.limits.count
                (take (c.loop-k.k + 1) (numbers_of c.args.bytes.now)) (c.loop-k.k + 1)
                c.match-number_fault.runs w.add_page-used.new.runs c.match-number_fault.used
                w.add_page-used.result c.match-number_fault.skipped c.loop-k.skipped
                w.runs-is w.used-is w.skipped-is
                (more_named c.args.limits.skips c.args.limits.reserved c.args.limits.count
                (numbers_of c.args.bytes.now) c.loop-k.k c.number_at-number.result c.loop-k.runs
                w.add_page-used.new.runs c.loop-k.used w.add_page-used.result c.loop-k.skipped lt
                at right w.add_page-used.ensures.few (λ ms few t. (told ms few t).0) short before);
            ends = grind arith;
          }
      | in-Some+else-not-limits w ↦
          let wrong : number_fault c.args.limits.reserved c.args.limits.count
          c.number_at-number.result ≡ Some w.in-Some.fault = sym w.in-Some.ensures in
          let skips : c.args.limits.skips ≡ true = search rules in
          grind (
            arith,
            same_named c.args.limits.skips c.args.limits.reserved c.args.limits.count (take
                (c.loop-k.k + 1) (numbers_of c.args.bytes.now)) (c.loop-k.k + 1)
                c.match-number_fault.runs c.loop-k.runs c.match-number_fault.used c.loop-k.used
                c.match-number_fault.skipped (c.loop-k.skipped + 1) w.runs-is w.used-is w.skipped-is
                (more_skipped c.args.limits.skips c.args.limits.reserved c.args.limits.count
                (numbers_of c.args.bytes.now) c.loop-k.k c.number_at-number.result w.in-Some.fault
                c.loop-k.runs c.loop-k.used c.loop-k.skipped lt at wrong skips
                c.loop-k.invariant.named),
          )
    ]

pub returns : goal.returns
returns c = grind (arith, numbers_of-length, take_all)
