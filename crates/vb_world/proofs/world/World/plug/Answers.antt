use Rattle.{std.proofs.Common.arith, vb_world.proofs.Plugs.{config_none, config_some, bad_config}}
use Rattle.vb_world.proofs.Plugs.{too_many, no_device, plug_happens, none_there, some_there}
use Rattle.vb_world.proofs.world.World.plug.Goals as goal

pub returns-in_default : goal.returns-in_default
returns-in_default g c = λ w host. (
  w,
  host,
  bad_config w c.args.size.pages c.args.size.queue_size c.args.size.processors
      (config_none _ _ _ c.new.ensures c.in_default.is),
)

pub returns-then-len : goal.returns-then-len
returns-then-len g c = λ w host. let config = config_some _ _ _ _ c.new.ensures c.in-Some.is in (
  w,
  host,
  too_many _ _ _ _ _ w c.args.size.pages c.args.size.queue_size
      c.args.size.processors host config.fits (omega (arith, c.if-len.true, c.len.ensures)),
)

pub returns-then-is_empty : goal.returns-then-is_empty
returns-then-is_empty g c = λ w host.
    let config = config_some _ _ _ _ c.new.ensures c.in-Some.is in (
      w,
      host,
      no_device _ _ _ _ _ w c.args.size.pages c.args.size.queue_size c.args.size.processors host
          config.fits (omega (arith, c.if-len.false, c.len.ensures))
          (omega (arith, none_there c.if-is_empty.ensures, c.args.self.now.spares.ok)),
    )

pub plug_first_spare-requires-clause-config : goal.plug_first_spare-requires-clause-config
plug_first_spare-requires-clause-config g c =
    let config = config_some _ _ _ _ c.new.ensures c.in-Some.is in rw config.same config.fits

pub returns : goal.returns
returns g c = λ w host.
    let config = config_some _ _ _ _ c.new.ensures c.in-Some.is in
    let (new, stands, plugs) = c.plug_first_spare.ensures w host in (
      new,
      stands,
      plug_happens _ _ _ _ _ w c.args.size.pages c.args.size.queue_size c.args.size.processors _ new
          host config.fits (omega (arith, c.if-len.false, c.len.ensures))
          (omega (arith, some_there c.if-is_empty.ensures, c.args.self.now.spares.ok))
          (rw config.same at plugs),
    )
