-- Calls that are counted, one after another and of a state around them.
use Rattle.std.proofs.lemmas.Bool.{false≢true}
use Rattle.std.proofs.lemmas.List.Sums.{sum_by-append}
use Rattle.std.proofs.Math.Nat.{le_refl}
use Rattle.std.specs.Prelude.{cond, count_by, List, [], ◌∷◌, ◌++◌}
use Rattle.std.proofs.Common.{ℕ, Bool, true, false, ◌≡◌, ◌≤◌, ◌+◌, refl, sym, ap, ◌∙◌, arith}
use Rattle.txn_history.specs.Posted.{Errand, Posted}
use Rattle.txn_history.specs.Spends.{Spends, spare, calls, sleeps, is_call, is_sleep}

pub spare-le : (bad f : Bool) (x y : ℕ) → x ≤ y → spare bad f x ≤ spare bad f y
spare-le true true x y l = omega arith
spare-le true false x y l = l
spare-le false f x y l = omega arith

-- where the first fails, the second has what an error allows; else it needs none
pub spare-join : (bad f bad' f' : Bool) (x x' : ℕ) → (f ≡ true → bad ≡ true) → (bad' ≡ true → f ≡ true) → (f' ≡ true → f ≡ true) → x' ≤ x
    → spare bad f x + spare bad' f' x' ≤ spare bad f' x
spare-join true true true true x x' a b c l = omega arith
spare-join true true true false x x' a b c l = omega arith
spare-join true true false true x x' a b c l = omega arith
spare-join true true false false x x' a b c l = omega arith
spare-join true false true f' x x' a b c l = absurd (false≢true (b refl))
spare-join true false false true x x' a b c l = absurd (false≢true (c refl))
spare-join true false false false x x' a b c l = omega arith
spare-join false true bad' f' x x' a b c l = absurd (false≢true (a refl))
spare-join false false true f' x x' a b c l = absurd (false≢true (b refl))
spare-join false false false true x x' a b c l = omega arith
spare-join false false false false x x' a b c l = omega arith

spare-less : (bad f f' : Bool) (x : ℕ) → (f' ≡ true → f ≡ true) → spare bad f x ≤ spare bad f' x
spare-less true true true x w = omega arith
spare-less true true false x w = omega arith
spare-less true false true x w = absurd (false≢true (w refl))
spare-less true false false x w = omega arith
spare-less false f f' x w = omega arith

-- more may be allowed
pub spare-more : (bad bad' f : Bool) (x : ℕ) → (bad ≡ true → bad' ≡ true) → spare bad f x ≤ spare bad' f x
spare-more true true f x m = le_refl (spare true f x)
spare-more true false f x m = absurd (false≢true (m refl))
spare-more false bad' f x m = omega arith

pub zero-right : (x : ℕ) → x + 0 ≡ x
zero-right x = omega arith

-- a call that gives up in the end owes no more
pub Spends-stops : {was is is' : ℕ → Type 0} {before after after' round : ℕ → ℕ} {bad fails fails' : Bool} {weight locked width width' : ℕ}
    {from to : Posted} {kept failed kept' failed' : Bool}
    → Spends was is before after round bad fails weight locked width width' from to kept failed
    → kept' ≡ false
    → (fails ≡ true → fails' ≡ true)
    → Spends was is' before after' round bad fails' weight locked width width' from to kept' failed'
Spends-stops {fails} {fails'} s i m = record {
  wider = s.wider;
  bears = λ e. absurd (false≢true (sym i ∙ e));
  allowed = λ e. absurd (false≢true (sym i ∙ e));
  spends = λ e. absurd (false≢true (sym i ∙ e));
  stopped = s.stopped;
  rests = λ e. absurd (false≢true (sym i ∙ e));
  stopped_rests = let x = s.stopped_rests in let y = spare-more fails fails' false 1 m in omega arith;
}

-- the same call, of a state around it
pub Spends-map : {was was' is is' : ℕ → Type 0} {before before' after after' round round' : ℕ → ℕ} {bad fails : Bool} {weight locked width width' : ℕ}
    {from to : Posted} {kept failed : Bool}
    → ((w : ℕ) → was' w → was w)
    → ((w v : ℕ) → w ≤ v → was' w → is v → is' v)
    → ((n w : ℕ) → 1 ≤ n → was' w → round n ≤ round' n)
    → ((n w : ℕ) → 1 ≤ n → was' w → before n ≤ before' n)
    → ((n w : ℕ) → 1 ≤ n → was' w → after' n + before n ≤ before' n + after n)
    → Spends was is before after round bad fails weight locked width width' from to kept failed
    → Spends was' is' before' after' round' bad fails weight locked width width' from to kept failed
Spends-map {round} {round'} {bad} {weight} {failed} p i r b a s = record {
  wider = s.wider;
  bears = λ e w o. i w (w + weight) (omega arith) o (s.bears e w (p w o));
  allowed = s.allowed;
  spends = λ e n w u t o.
      let k = s.spends e n w u t (p w o) in
      let x = a n w u o in
      let y = spare-le bad failed (round n + w + weight) (round' n + w + weight) (let z = r n w u o in omega arith) in
      omega arith;
  stopped = λ n w u t o.
      let k = s.stopped n w u t (p w o) in
      let x = b n w u o in
      let y = spare-le bad false (round n + w + weight) (round' n + w + weight) (let z = r n w u o in omega arith) in
      omega arith;
  rests = s.rests;
  stopped_rests = s.stopped_rests;
}

-- one call after another; the second may spend and fail only where the first failed
pub Spends-then : {was mid is : ℕ → Type 0} {before middle after round round' : ℕ → ℕ} {bad fails bad' fails' : Bool} {weight locked width via_width width' : ℕ}
    {from via to : Posted} {first kept failed : Bool}
    → (fails ≡ true → bad ≡ true)
    → (bad' ≡ true → first ≡ true)
    → (fails' ≡ true → first ≡ true)
    → ((n w : ℕ) → 1 ≤ n → was w → round' n ≤ round n)
    → Spends was mid before middle round bad fails weight locked width via_width from via true first
    → Spends mid is middle after round' bad' fails' 0 0 via_width width' via to kept failed
    → Spends was is before after round bad fails weight locked width width' from to kept failed
Spends-then {was} {mid} {is} {before} {middle} {after} {round} {round'} {bad} {fails} {bad'} {fails'} {weight} {locked} {from} {via} {to} {first} {kept} {failed} worse b f r s t = record {
  wider = let x = s.wider in let y = t.wider in omega arith;
  bears = λ e w o. rw (← (zero-right (w + weight))) (t.bears e (w + weight) (s.bears refl w o));
  allowed = λ e g. s.allowed refl (f (t.allowed e g));
  spends = λ e n w u m o.
      let one = s.spends refl n w u (let x = t.wider in omega arith) o in
      let two = t.spends e n (w + weight) u m (s.bears refl w o) in
      let z = r n w u o in
      let join = spare-join bad first bad' failed (round n + w + weight) (round' n + (w + weight) + 0) (λ g. worse (s.allowed refl g)) b (λ g. f (t.allowed e g)) (omega arith) in
      omega arith;
  stopped = λ n w u m o.
      let one = s.spends refl n w u (let x = t.wider in omega arith) o in
      let two = t.stopped n (w + weight) u m (s.bears refl w o) in
      let z = r n w u o in
      let join = spare-join bad first bad' false (round n + w + weight) (round' n + (w + weight) + 0) (λ g. worse (s.allowed refl g)) b (λ g. absurd (false≢true g)) (omega arith) in
      omega arith;
  rests = λ e.
      let one = s.rests refl in
      let two = t.rests e in
      let join = spare-join fails first fails' failed 1 1 (s.allowed refl) f (λ g. f (t.allowed e g)) (omega arith) in
      omega arith;
  stopped_rests =
      let one = s.rests refl in
      let two = t.stopped_rests in
      let join = spare-join fails first fails' false 1 1 (s.allowed refl) f (λ g. absurd (false≢true g)) (omega arith) in
      omega arith;
}

-- one call after another, of which the second is told of nothing
pub Spends-next : {was mid is : ℕ → Type 0} {before middle after round round' : ℕ → ℕ} {bad fails : Bool} {weight locked width via_width width' : ℕ}
    {from via to : Posted} {first kept failed : Bool}
    → (fails ≡ true → bad ≡ true)
    → ((n w : ℕ) → 1 ≤ n → was w → round' n ≤ round n)
    → Spends was mid before middle round bad fails weight locked width via_width from via true first
    → Spends mid is middle after round' false false 0 0 via_width width' via to kept failed
    → Spends was is before after round bad fails weight locked width width' from to kept failed
Spends-next worse r s t = Spends-then worse (λ e. absurd (false≢true e)) (λ e. absurd (false≢true e)) r s t

-- a call, and then work on the state alone
pub Spends-after : {was mid is : ℕ → Type 0} {before middle after round : ℕ → ℕ} {bad fails : Bool} {weight locked width width' : ℕ}
    {from to : Posted} {first failed : Bool}
    → (failed ≡ true → first ≡ true)
    → ((w : ℕ) → mid w → is w)
    → ((n : ℕ) → after n ≤ middle n)
    → Spends was mid before middle round bad fails weight locked width width' from to true first
    → Spends was is before after round bad fails weight locked width width' from to true failed
Spends-after {round} {bad} {fails} {weight} {first} {failed} f i a s = record {
  wider = s.wider;
  bears = λ e w o. i _ (s.bears e w o);
  allowed = λ e g. s.allowed e (f g);
  spends = λ e n w u t o.
      let one = s.spends e n w u t o in
      let x = a n in
      let y = spare-less bad first failed (round n + w + weight) f in
      omega arith;
  stopped = s.stopped;
  rests = λ e. let one = s.rests e in let y = spare-less fails first failed 1 f in omega arith;
  stopped_rests = s.stopped_rests;
}

-- nothing is posted
pub Spends-quiet : {was is : ℕ → Type 0} {before after round : ℕ → ℕ} {bad fails : Bool} {weight locked width : ℕ} {from : Posted} {kept failed : Bool}
    → (failed ≡ true → fails ≡ true)
    → ((w : ℕ) → was w → is (w + weight))
    → ((n : ℕ) → after n ≤ before n)
    → Spends was is before after round bad fails weight locked width width from from kept failed
Spends-quiet f i a = record {
  wider = omega arith;
  bears = λ e. i;
  allowed = λ e. f;
  spends = λ e n w u t o. let x = a n in omega arith;
  stopped = λ n w u t o. omega arith;
  rests = λ e. omega arith;
  stopped_rests = omega arith;
}

-- work on the state, which may begin a sleep or cut a request, and then a call that is told of nothing
pub Spends-before : {was was' is : ℕ → Type 0} {before before' after after' round round' : ℕ → ℕ} {bad fails : Bool} {weight locked width via_width width' : ℕ}
    {from via to : Posted} {kept failed : Bool}
    → calls via ≡ calls from
    → sleeps via ≤ sleeps from + spare fails false 1 + locked
    → width ≤ via_width
    → ((w : ℕ) → was' w → was (w + weight))
    → ((n w : ℕ) → 1 ≤ n → via_width ≤ n → was' w → before n ≤ before' n + spare bad false (round' n + w + weight) + weight)
    → ((n : ℕ) → after' n ≤ after n)
    → Spends was is before after round false false 0 0 via_width width' via to kept failed
    → Spends was' is before' after' round' bad fails weight locked width width' from to kept failed
Spends-before {round} {round'} {bad} {fails} {weight} {from} {via} {to} {kept} {failed} same m v p b d s = record {
  wider = let x = s.wider in omega arith;
  bears = λ e w o. rw (← (zero-right (w + weight))) (s.bears e (w + weight) (p w o));
  allowed = λ e g. absurd (false≢true (s.allowed e g));
  spends = λ e n w u t o.
      let one = s.spends e n (w + weight) u t (p w o) in
      let x = b n w u (let y = s.wider in omega arith) o in
      let k = d n in
      let y = spare-less bad false failed (round' n + w + weight) (λ g. absurd (false≢true (s.allowed e g))) in
      omega arith;
  stopped = λ n w u t o.
      let one = s.stopped n (w + weight) u t (p w o) in
      let x = b n w u (let y = s.wider in omega arith) o in
      omega arith;
  rests = λ e. let one = s.rests e in let y = spare-less fails false failed 1 (λ g. absurd (false≢true (s.allowed e g))) in omega arith;
  stopped_rests = let x = s.stopped_rests in omega arith;
}

-- the call gives up, and posts nothing but a sleep
pub Spends-failed : {was is : ℕ → Type 0} {before after round : ℕ → ℕ} {bad fails : Bool} {weight locked width width' : ℕ}
    {from to : Posted} {kept failed : Bool}
    → kept ≡ false
    → calls to ≡ calls from
    → sleeps to ≤ sleeps from + spare fails false 1
    → width ≤ width'
    → Spends was is before after round bad fails weight locked width width' from to kept failed
Spends-failed i x m v = record {
  wider = v;
  bears = λ e. absurd (false≢true (sym i ∙ e));
  allowed = λ e. absurd (false≢true (sym i ∙ e));
  spends = λ e. absurd (false≢true (sym i ∙ e));
  stopped = λ n w u t o. omega arith;
  rests = λ e. absurd (false≢true (sym i ∙ e));
  stopped_rests = omega arith;
}

-- what one errand adds

abbrev pub one_if : Bool → ℕ
one_if true = 1
one_if false = 0

count_more : (p : Errand → Bool) (rs : List Errand) (r : Errand) → count_by p (rs ++ r ∷ []) ≡ count_by p rs + one_if (p r)
count_more p rs r = sum_by-append (λ x. cond (p x) 1 0) rs (r ∷ []) ∙ ap (λ n. count_by p rs + n) (by (p r))
  where
    by : (b : Bool) → 0 + cond b 1 0 ≡ one_if b
    by true = refl
    by false = refl

pub calls-more : (from to : Posted) (r : Errand) → to.sends ≡ from.sends ++ r ∷ [] → calls to ≡ calls from + one_if (is_call r)
calls-more from to r e = ap (λ rs. count_by is_call rs) e ∙ count_more is_call from.sends r

pub sleeps-more : (from to : Posted) (r : Errand) → to.sends ≡ from.sends ++ r ∷ [] → sleeps to ≡ sleeps from + one_if (is_sleep r)
sleeps-more from to r e = ap (λ rs. count_by is_sleep rs) e ∙ count_more is_sleep from.sends r
