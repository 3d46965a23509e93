-- What the sample runs share.
use Rattle.std.proofs.Common.{◌≡◌, ℕ, ◌≤◌, inl, inr, Bool, true, false, ◌&&◌, List, [], ◌∷◌, Some, None, refl, ap, subst, arith}
use Rattle.std.specs.Prelude.{if◌then◌else◌}
use Rattle.txn_kv.specs.declared.ticket.Ticket.{Ticket}
use Rattle.txn_kv.specs.declared.message.Mutation.{Mutation}
use Rattle.txn_kv.specs.declared.request.Request.{Request}
use Rattle.txn_kv.specs.declared.request.Request.TheVariants.{Commit, BatchRollback, PessimisticLock}
use Rattle.txn_history.specs.Event.{Event, Has}
use Rattle.txn_history.specs.Event.Event.{Sent, Took}
use Rattle.txn_history.specs.Licence.{WasGiven, PrewriteLicence}
use Rattle.txn_history.specs.Plan.{Key, Content, Way, is_spread, key_eq, AreDistinct, ArePlanned, IsListed, IsPlanned, LocksKey}
use Rattle.txn_history.specs.Plan.Way.{Spread}
use Rattle.txn_model.proofs.Keys.{same_key, key_itself}
use Rattle.txn_law.specs.Sample.{first_key, second_key, put_of, sample_plan, put_first, put_second, prewrite_of, ticket, tso, gave_1}

pub differ : ◌≡◌ {A = Key} second_key first_key → ⊥
differ e = let f : key_eq second_key first_key ≡ true = subst (λ q. key_eq second_key q ≡ true) e (key_itself second_key) in absurd (cc)

-- nothing was sent but what a plain transaction or a reader sends: no pessimistic lock, no rollback and no commit
abbrev is_plain : Request → Bool
is_plain (PessimisticLock q) = false
is_plain (BatchRollback q) = false
is_plain (Commit q) = false
is_plain _ = true

abbrev pub plain_sent : List Event → Bool
plain_sent [] = true
plain_sent (Sent t r ∷ es) = is_plain r && plain_sent es
plain_sent (_ ∷ es) = plain_sent es

sent_is : (u t : Ticket) (q r : Request) → Sent u q ≡ Sent t r → q ≡ r
sent_is u t q r e = cc

pub none_sent : (es : List Event) → plain_sent es ≡ true → (t : Ticket) (r : Request) → is_plain r ≡ false → Has es (Sent t r) → ⊥
none_sent [] f t r p h = h
none_sent (Sent u q ∷ es) f t r p h = by (is_plain q) refl f (λ g. none_sent es g t r p)
  where
    by : (x : Bool) → is_plain q ≡ x → (x && plain_sent es) ≡ true → (plain_sent es ≡ true → Has es (Sent t r) → ⊥) → ⊥
    by false e g rest = absurd (cc)
    by true e g rest = elim h [ inl w ↦ absurd (let z = ap is_plain (sent_is u t q r w) in cc) | inr v ↦ rest g v ]
none_sent (_ ∷ es) f t r p h = elim h [ inl w ↦ absurd (cc) | inr v ↦ none_sent es f t r p v ]

pub locked_keys : (way : Way) (once : Bool) (k : Key) (x : Content) → (sample_plan way once).writes k ≡ Some x → LocksKey (put_first ∷ put_second ∷ []) k
locked_keys way once k x h = by (key_eq first_key k) (key_eq second_key k) refl refl h
  where
    by : (u v : Bool) → key_eq first_key k ≡ u → key_eq second_key k ≡ v → (if u then Some (put_of (7 ∷ [])) else (if v then Some (put_of (8 ∷ [])) else None)) ≡ Some x → LocksKey (put_first ∷ put_second ∷ []) k
    by true v e f g = (put_first, put_of (7 ∷ []), inl refl, same_key first_key k e, refl)
    by false true e f g = (put_second, put_of (8 ∷ []), inr (inl refl), same_key second_key k f, refl)
    by false false e f g = absurd (cc)

pub first_planned : (way : Way) (once : Bool) → IsPlanned (sample_plan way once) put_first
first_planned way once = (refl, λ x h. h)

pub second_planned : (way : Way) (once : Bool) → IsPlanned (sample_plan way once) put_second
second_planned way once = (refl, λ x h. h)

pub both_planned : (way : Way) (once : Bool) → ArePlanned (sample_plan way once) (put_first ∷ put_second ∷ [])
both_planned way once m (inl e) = subst (IsPlanned (sample_plan way once)) e (first_planned way once)
both_planned way once m (inr (inl e)) = subst (IsPlanned (sample_plan way once)) e (second_planned way once)
both_planned way once m (inr (inr e)) = absurd e

pub both_distinct : AreDistinct (put_first ∷ put_second ∷ [])
both_distinct = ((λ n a. elim a [ inl e ↦ subst (λ (q : Mutation). key_eq first_key q.key ≡ false) e refl | inr e ↦ absurd e ]), ((λ n a. absurd a), tt))

pub one_distinct : (m : Mutation) → AreDistinct (m ∷ [])
one_distinct m = ((λ n a. absurd a), tt)

pub given_by : (es : List Event) (c : ℕ) → c ≤ 1 → Has es (Took (ticket 1) tso gave_1) → WasGiven es c
given_by es c l h = (ticket 1, _, _, 1, h, (_, refl, omega arith, omega arith), l)

-- the licence of each Prewrite of the samples
pub prewrite_licence : (way : Way) (once : Bool) (es : List Event) (ms : List Mutation) (ks : List Key) → plain_sent es ≡ true → Has es (Took (ticket 1) tso gave_1) → ArePlanned (sample_plan way once) ms → AreDistinct ms
    → ((qs : List Key) → way ≡ Spread qs → IsListed (sample_plan way once) qs × (LocksKey ms first_key → ks ≡ qs))
    → (once ≡ true → (k : Key) (x : Content) → (sample_plan way once).writes k ≡ Some x → LocksKey ms k)
    → PrewriteLicence (sample_plan way once) es (prewrite_of (is_spread way) once ms ks)
prewrite_licence way once es ms ks plain h planned distinct named all = record {
  primary = refl;
  planned = planned;
  once = distinct;
  way = refl;
  named = named;
  at_once = λ e. (e, (put_of (7 ∷ []), refl), all e);
  given = (given_by es 1 (omega arith) h, given_by es 0 (omega arith) h);
  above = λ f t q g e. absurd (none_sent es plain t (PessimisticLock q) refl g);
  unrolled = λ w t q g e. none_sent es plain t (BatchRollback q) refl g;
}
