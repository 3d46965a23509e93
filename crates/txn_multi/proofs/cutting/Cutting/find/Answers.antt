use Rattle.std.proofs.lemmas.List.Elements.{All-weaker}
use Rattle.txn_region.specs.Clients.{IsUsable}
use Rattle.txn_region.specs.declared.store.RegionStore.{RegionStore}
use Rattle.txn_shard.specs.Shards.{IsAt}
use Rattle.txn_multi.proofs.cutting.Cutting.find.Goals as goal

pub returns-clause-usable : goal.returns-clause-usable
returns-clause-usable g c =
    All-weaker (λ (f : _ × RegionStore). IsAt g.P.Shardable.LiesIn (g.P.Shardable.load_of f.0) f.1) (λ (f : _ × RegionStore). IsUsable f.1.region_with_leader) (λ f i. i.0) _ c.shards-query.ensures.inside
