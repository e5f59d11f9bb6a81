use Rattle.std.proofs.Common.{◌≡◌, ◌∙◌, ◌<◌, ◌/◌, ℕ, List, Option, Some, None, Ok, sym, ap, arith}
use Rattle.std.{proofs.Common.{take, length, get_or, rules}, proofs.lemmas.List.take_all}
use Rattle.vb_virtio.specs.Tests.{is_in}
use Rattle.vb_chain.specs.declared.fault.ChainFault.{ChainFault}
use Rattle.vb_request.specs.Request.{numbers_of, number_fault, each_once, first_number_fault}
use Rattle.vb_request.proofs.Once.{numbers_of-length, numbers_of-at, fault_here, sound_more}
use Rattle.vb_request.{specs.Request.unless_fault, proofs.Once.{once_more, once_few}}
use Rattle.vb_request.proofs.request.list_pages.Goals as goal

pub returns-in-Some-clause-fault : goal.returns-in-Some-clause-fault
returns-in-Some-clause-fault c =
    let inside : c.loop-k.k < length c.args.bytes.now / 4 = omega (arith, c.loop-k-test.true) in
    let lt : c.loop-k.k < length (numbers_of c.args.bytes.now) =
    omega (arith, inside, numbers_of-length c.args.bytes.now) in
    let at : get_or (numbers_of c.args.bytes.now) c.loop-k.k 0 ≡ c.number_at-number.result =
    numbers_of-at c.args.bytes.now c.loop-k.k inside ∙ sym c.number_at-number.ensures in
    let wrong : number_fault c.args.reserved c.args.count c.number_at-number.result ≡
    Some c.in-Some.fault = sym c.in-Some.ensures in
    ap (λ (o : Option ChainFault). unless_fault o (each_once (numbers_of c.args.bytes.now)))
    (fault_here c.args.reserved c.args.count (numbers_of c.args.bytes.now) c.loop-k.k
    c.number_at-number.result c.in-Some.fault lt at c.loop-k.invariant.sound wrong)

pub loop-k-preserved : goal.loop-k-preserved
loop-k-preserved c =
    let inside : c.loop-k.k < length c.args.bytes.now / 4 = omega (arith, c.loop-k-test.true) in
    let lt : c.loop-k.k < length (numbers_of c.args.bytes.now) =
    omega (arith, inside, numbers_of-length c.args.bytes.now) in
    let at : get_or (numbers_of c.args.bytes.now) c.loop-k.k 0 ≡ c.number_at-number.result =
    numbers_of-at c.args.bytes.now c.loop-k.k inside ∙ sym c.number_at-number.ensures in
    let right : number_fault c.args.reserved c.args.count c.number_at-number.result ≡ None =
    search rules in record {
      pages = once_more (numbers_of c.args.bytes.now) c.loop-k.pages.items
          c.add_once.new.pages.items c.loop-k.k c.number_at-number.result lt at
          c.loop-k.invariant.pages c.add_once.ensures;
      sound = sound_more c.args.reserved c.args.count (numbers_of c.args.bytes.now) c.loop-k.k
          c.number_at-number.result lt at c.loop-k.invariant.sound right;
      few = omega (
        arith,
        once_few c.loop-k.pages.items c.add_once.new.pages.items c.number_at-number.result
            (is_in c.number_at-number.result c.loop-k.pages.items) c.add_once.ensures,
        c.loop-k.invariant.few,
      );
    }

pub returns-clause-pages : goal.returns-clause-pages
returns-clause-pages c =
    let whole : take c.loop-k.k (numbers_of c.args.bytes.now) ≡ numbers_of c.args.bytes.now =
    take_all c.loop-k.k (numbers_of c.args.bytes.now)
    (omega (arith, numbers_of-length c.args.bytes.now, c.loop-k-test.false)) in
    ap (λ (o : Option ChainFault). unless_fault o (each_once (numbers_of c.args.bytes.now)))
    (ap (first_number_fault c.args.reserved c.args.count) (sym whole) ∙ c.loop-k.invariant.sound)
    ∙ ap (λ (ns : List ℕ). Ok ns) (ap each_once (sym whole) ∙ sym c.loop-k.invariant.pages)
