-- Regions that meet have a key in common.
use Rattle.std.proofs.Common.{◌≡◌, Bool, true, false, refl, sym, ◌∙◌}
use Rattle.std.specs.Prelude.{◌&&◌}
use Rattle.std.specs.Ordering.{is_lt}
use Rattle.txn_kv.specs.Region.{contains_key}
use Rattle.txn_kv.specs.declared.message.Region.{Region}
use Rattle.txn_region.specs.Regions.{Key, key_cmp, is_below, is_reversed, meets}
use Rattle.txn_region.proofs.Order.{before_end, begins_after, contained_below, contained_if, ended_before, less_itself, not_after, not_itself, upright}

by_cases : (b : Bool) {G : Type 0} → (b ≡ true → G) → (b ≡ false → G) → G
by_cases true f g = f refl
by_cases false f g = g refl

both : (a b : Bool) → (a && b) ≡ true → (a ≡ true) × (b ≡ true)
both true b h = (refl, h)
both false b h = absurd (cc)

neither : (a b : Bool) {G : Type 0} → (a && b) ≡ false → (a ≡ false → G) → (b ≡ false → G) → G
neither true b h f g = g h
neither false b h f g = f refl

-- the greater of the two starts lies in both
pub meet_at_key : (a b : Region) → is_reversed a ≡ false → is_reversed b ≡ false → meets a b ≡ true → (key : Key) × (contains_key a key ≡ true) × (contains_key b key ≡ true)
meet_at_key a b up upb met =
    let each = both (is_below a.start_key b.end_key) (is_below b.start_key a.end_key) met in
    by_cases (is_lt (key_cmp a.start_key b.start_key))
    (λ less. (b.start_key, contained_if a b.start_key (not_after a.start_key b.start_key (less_itself a.start_key b.start_key less)) each.1, contained_if b b.start_key (not_itself b.start_key) (upright b upb)))
    (λ not_less. (a.start_key, contained_if a a.start_key (not_itself a.start_key) (upright a up), contained_if b a.start_key not_less each.0))

clash : (g : Region) (key : Key) {G : Type 0} → contains_key g key ≡ true → contains_key g key ≡ false → G
clash g key yes_in not_in = absurd (let h : true ≡ false = sym yes_in ∙ not_in in cc)

pub apart_by_key : (a b : Region) → meets a b ≡ false → (key : Key) → contains_key a key ≡ true → contains_key b key ≡ false
apart_by_key a b apart key has =
    neither (is_below a.start_key b.end_key) (is_below b.start_key a.end_key) apart
    (λ fails. by_cases (is_below key b.end_key)
    (λ holds. clash a key has (begins_after a key (before_end key a.start_key b.end_key fails holds)))
    (λ beyond. ended_before b key beyond))
    (λ fails. begins_after b key (before_end key b.start_key a.end_key fails (contained_below a key has)))
