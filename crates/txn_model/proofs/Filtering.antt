-- Some of the cells, in their order.
use Rattle.std.proofs.Common.{Bool, true, false, List, [], ◌∷◌}
use Rattle.std.specs.Prelude.{cond}
use Rattle.std.specs.List.{filter}
use Rattle.txn_model.specs.declared.cell.Cell.{Cell}
use Rattle.txn_model.specs.Cells.{Key, AllAbove, AreInOrder, NoneEmpty, AreKept}

module _ (p : Cell → Bool) where
  above_filter : (k : Key) (cs : List Cell) → AllAbove k cs → AllAbove k (filter p cs)
  above_filter k [] a = tt
  above_filter k (c ∷ cs) a = by (p c) (above_filter k cs a.1)
    where
      by : (b : Bool) → AllAbove k (filter p cs) → AllAbove k (cond b (c ∷ filter p cs) (filter p cs))
      by true rest = (a.0, rest)
      by false rest = rest

  pub order_filter : (cs : List Cell) → AreInOrder cs → AreInOrder (filter p cs)
  order_filter [] a = tt
  order_filter (c ∷ cs) a = by (p c) (order_filter cs a.1) (above_filter c.key cs a.0)
    where
      by : (b : Bool) → AreInOrder (filter p cs) → AllAbove c.key (filter p cs) → AreInOrder (cond b (c ∷ filter p cs) (filter p cs))
      by true rest above = (above, rest)
      by false rest above = rest

  none_empty_filter : (cs : List Cell) → NoneEmpty cs → NoneEmpty (filter p cs)
  none_empty_filter [] a = tt
  none_empty_filter (c ∷ cs) a = by (p c) (none_empty_filter cs a.1)
    where
      by : (b : Bool) → NoneEmpty (filter p cs) → NoneEmpty (cond b (c ∷ filter p cs) (filter p cs))
      by true rest = (a.0, rest)
      by false rest = rest

  pub kept_filter : (cs : List Cell) → AreKept cs → AreKept (filter p cs)
  kept_filter cs kept = record { in_order = order_filter cs kept.in_order; none_empty = none_empty_filter cs kept.none_empty }
