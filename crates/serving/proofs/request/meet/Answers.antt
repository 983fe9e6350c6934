-- `serving::request::meet` meets its contract. Assumes nothing.
use Rattle.std.proofs.Common.{rules}
use Rattle.serving.proofs.Cases.{hittable_at, strikes_at, bigs, admitted}
use Rattle.serving.proofs.request.meet.Goals as goal

pub hit-requires : goal.hit-requires
hit-requires c = hittable_at c.requires c.if-home.true c.from.ensures

pub returns-then-home-clause-met : goal.returns-then-home-clause-met
returns-then-home-clause-met c =
    let o = c.hit.ensures.others in
    strikes_at c.requires c.if-home.true c.from.ensures o.place o.file o.size o.cost c.hit.ensures.hit

pub returns-then-too_big-clause-met : goal.returns-then-too_big-clause-met
returns-then-too_big-clause-met c = bigs c.requires c.if-home.false (search rules) c.counted.ensures

pub returns-clause-met : goal.returns-clause-met
returns-clause-met c = admitted c.requires c.if-home.false (search rules) c.admit.ensures.met
