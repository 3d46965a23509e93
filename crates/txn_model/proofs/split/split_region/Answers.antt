use Rattle.std.proofs.Common.{◌≡◌, ◌+◌, ◌<◌, ◌^◌, length, sym, ◌∙◌, ap, subst, arith}
use Rattle.txn_model.specs.declared.region.StoredRegion.{StoredRegion}
use Rattle.txn_model.specs.Regions.{lower_part, upper_part}
use Rattle.txn_model.proofs.Splitting.{not_split, split_done, read_again, version_fits}
use Rattle.txn_model.proofs.split.split_region.Goals as goal

pub returns-in_default-clause-ok : goal.returns-in_default-clause-ok
returns-in_default-clause-ok c =
    let gs = c.args.regions.now.items in
    not_split c.args.key.now (length gs + 1) gs (rw c.as_slice.ensures.value at c.in_default.ensures.none)

pub upper_part-requires : goal.upper_part-requires
upper_part-requires c =
    let gs = c.args.regions.now.items in
    let found = rw c.as_slice.ensures.value at c.in-Some.ensures.found in
    let fits = version_fits gs c.in-Some.at c.index.result.now found.0 c.requires.fits in
    subst (λ (g : StoredRegion). g.epoch.version + 1 < 2 ^ 64) (sym c.index.ensures) fits

pub keep_lower_part-requires : goal.keep_lower_part-requires
keep_lower_part-requires c =
    let gs = c.args.regions.now.items in
    let found = rw c.as_slice.ensures.value at c.in-Some.ensures.found in
    let fits = version_fits gs c.in-Some.at c.index.result.now found.0 c.requires.fits in
    let again = read_again gs c.in-Some.at c.index.result.now c.in_ok-upper.upper c.index_mut.result.now c.insert.new.self.items found.0 c.index.ensures c.in_ok-insert.ensures.items c.index_mut.ensures.value in
    subst (λ (g : StoredRegion). g.epoch.version + 1 < 2 ^ 64) (sym (again ∙ c.index.ensures)) fits

pub returns-clause-ok : goal.returns-clause-ok
returns-clause-ok c =
    let gs = c.args.regions.now.items in
    let found = rw c.as_slice.ensures.value at c.in-Some.ensures.found in
    let first = rw c.as_slice.ensures.value at c.in-Some.ensures.first in
    let again = read_again gs c.in-Some.at c.index.result.now c.in_ok-upper.upper c.index_mut.result.now c.insert.new.self.items found.0 c.index.ensures c.in_ok-insert.ensures.items c.index_mut.ensures.value in
    let same : c.len.result ≡ length gs = omega arith in
    split_done c.args.key.now (length gs + 1) gs c.in-Some.at c.index.result.now c.in_ok-upper.upper c.index_mut.result.now c.keep_lower_part.new.region c.insert.new.self.items found.0 c.index.ensures (c.in_ok-upper.ensures ∙ ap (λ n. upper_part c.args.key.now (n + 1) c.index.result.now) same) c.in_ok-insert.ensures.items again (c.keep_lower_part.ensures ∙ ap (λ k. lower_part k c.index_mut.result.now) c.in_ok-middle.ensures) (found.1 c.index.result.now) first
