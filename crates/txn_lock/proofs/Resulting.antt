-- What a plan over regions answers is what became of its parts.
use Rattle.std.proofs.Common.{◌≡◌, inl, inr, ℕ, false, List, [], ◌∷◌, Option, map, refl, sym, ap, subst, ◌∙◌}
use Rattle.std.proofs.lemmas.List.Elements.{All-head, All-tail}
use Rattle.std.specs.Global.{Vec}
use Rattle.std.specs.List.{All, AllZip}
use Rattle.std.specs.Prelude.{◌⊎◌, Result, Ok, Err}
use Rattle.txn_history.specs.Among.{IsAmong}
use Rattle.txn_history.specs.Event.{Event}
use Rattle.txn_kv.specs.ErrorView.{view_of, ErrorView}
use Rattle.txn_kv.specs.declared.errors.Error.{Error}
use Rattle.txn_kv.specs.declared.errors.Error.TheVariants.{OutOfMemory}
use Rattle.txn_kv.specs.declared.message.RegionErr.{RegionErr}
use Rattle.txn_kv.specs.declared.reply.Reply.{Reply}
use Rattle.txn_kv.specs.declared.request.Request.{Request}
use Rattle.txn_history.specs.Meaning.{Meaning}
use Rattle.txn_merge.specs.Gathered.{single_of}
use Rattle.txn_multi.specs.Multi.{IsAnswer}
use Rattle.txn_multi.specs.Task.{IsOutcome, IsResult}
use Rattle.txn_multi.specs.declared.part.Part.{Part}
use Rattle.txn_plan.specs.Dispatch.{IsReplied}
use Rattle.txn_plan.specs.Merged.{IsMerged}
use Rattle.txn_retry.specs.Outcome.{all_or_first, preceded}
use Rattle.txn_tasks.specs.Tasks.{Outcome}
use Rattle.txn_lock.specs.Failing.{HasNoReply, IsRefusedForKeys, WasAnswered}

after_first : {X : Type 0} (x : X) (r : Result (List X) Error) (items : List X) → preceded x r ≡ Ok items → (rest : List X) × (r ≡ Ok rest) × (items ≡ x ∷ rest)
after_first x (Ok xs) items e = (xs, refl, cc)
after_first x (Err why) items e = cc

after_error : {X : Type 0} (x : X) (r : Result (List X) Error) (why : Error) → preceded x r ≡ Err why → r ≡ Err why
after_error x (Ok xs) why e = cc
after_error x (Err first) why e = let same : first ≡ why = cc in ap (λ (y : Error). Err y) same

pub all_among : {X : Type 0} (P : X → Type 0) (xs : List X) (x : X) → All P xs → IsAmong xs x → P x
all_among P [] x a i = absurd i
all_among P (y ∷ ys) x a (inl e) = subst P e (All-head P y ys a)
all_among P (y ∷ ys) x a (inr i) = all_among P ys x (All-tail P y ys a) i

module _ {S V : Type 0} (m : Meaning S (Result V Error)) (keys : V → List ErrorView) (region : V → Option RegionErr) (is : S → Type 0) (attempts : ℕ) (h : List Event) where
  -- the first error is that of a part
  pub first_failed : (parts : List (Part S)) (outcomes : List (Outcome V)) (why : Error) → All (λ p. is p.plan) parts
      → AllZip (λ p outcome. IsOutcome m keys region attempts p.region p.plan h outcome) parts outcomes
      → all_or_first outcomes ≡ Err why → (p : Part S) × is p.plan × IsOutcome m keys region attempts p.region p.plan h (Err why)
  first_failed [] [] why all z e = cc
  first_failed [] (first ∷ outcomes) why all z e = absurd z
  first_failed (p ∷ parts) [] why all z e = absurd z
  first_failed (p ∷ parts) (Err first ∷ outcomes) why all z e =
      let same : first ≡ why = cc in (p, All-head (λ (x : Part S). is x.plan) p parts all, subst (λ (x : Error). IsOutcome m keys region attempts p.region p.plan h (Err x)) same z.0)
  first_failed (p ∷ parts) (Ok r ∷ outcomes) why all z e = first_failed parts outcomes why (All-tail (λ (x : Part S). is x.plan) p parts all) z.1 (after_error r (all_or_first outcomes) why e)

  -- each result is one of a part
  pub each_result : (parts : List (Part S)) (outcomes : List (Outcome V)) (items : List (Result V Error)) → All (λ p. is p.plan) parts
      → AllZip (λ p outcome. IsOutcome m keys region attempts p.region p.plan h outcome) parts outcomes
      → all_or_first outcomes ≡ Ok items → (r : Result V Error) → IsAmong items r → (p : Part S) × is p.plan × IsResult m keys region p.plan h r
  each_result [] [] items all z e r i = let none : items ≡ [] = cc in absurd (subst (λ (x : List (Result V Error)). IsAmong x r) none i)
  each_result [] (first ∷ outcomes) items all z e r i = absurd z
  each_result (p ∷ parts) [] items all z e r i = absurd z
  each_result (p ∷ parts) (Err why ∷ outcomes) items all z e r i = cc
  each_result (p ∷ parts) (Ok first ∷ outcomes) items all z e r i =
      let f = after_first first (all_or_first outcomes) items e in
      by f.0 (subst (λ (x : List (Result V Error)). IsAmong x r) f.2 i) (each_result parts outcomes f.0 (All-tail (λ (x : Part S). is x.plan) p parts all) z.1 f.1 r)
    where
      by : (rest : List (Result V Error)) → IsAmong (first ∷ rest) r → (IsAmong rest r → (q : Part S) × is q.plan × IsResult m keys region q.plan h r) → (q : Part S) × is q.plan × IsResult m keys region q.plan h r
      by rest (inl same) more = (p, All-head (λ (x : Part S). is x.plan) p parts all, subst (λ (x : Result V Error). IsResult m keys region p.plan h x) same z.0)
      by rest (inr among) more = more among

  -- each part has its result
  pub each_part : (parts : List (Part S)) (outcomes : List (Outcome V)) (items : List (Result V Error))
      → AllZip (λ p outcome. IsOutcome m keys region attempts p.region p.plan h outcome) parts outcomes
      → all_or_first outcomes ≡ Ok items → (p : Part S) → IsAmong parts p → (r : Result V Error) × IsAmong items r × IsResult m keys region p.plan h r
  each_part [] outcomes items z e p i = absurd i
  each_part (q ∷ parts) [] items z e p i = absurd z
  each_part (q ∷ parts) (Err why ∷ outcomes) items z e p i = cc
  each_part (q ∷ parts) (Ok first ∷ outcomes) items z e p i =
      let f = after_first first (all_or_first outcomes) items e in
      let found = by f.0 i (each_part parts outcomes f.0 z.1 f.1 p) in
      (found.0, subst (λ (x : List (Result V Error)). IsAmong x found.0) (sym f.2) found.1, found.2)
    where
      by : (rest : List (Result V Error)) → IsAmong (q ∷ parts) p → (IsAmong parts p → (r : Result V Error) × IsAmong rest r × IsResult m keys region p.plan h r) → (r : Result V Error) × IsAmong (first ∷ rest) r × IsResult m keys region p.plan h r
      by rest (inl same) more = (first, inl refl, subst (λ (x : Part S). IsResult m keys region x.plan h first) same z.0)
      by rest (inr among) more = let x = more among in (x.0, inr x.1, x.2)

  -- what is made of a plan of one part: its reply, or why there is none that counts
  abbrev pub AloneGives : Part S → Result V Error → Type 0
  AloneGives p (Ok v) = IsResult m keys region p.plan h (Ok v)
  AloneGives p (Err e) = (e ≡ OutOfMemory) ⊎ (IsResult m keys region p.plan h (Err e) ⊎ IsOutcome m keys region attempts p.region p.plan h (Err e))

  pub alone : {L : Type 0} (key : L) (load : S → L) (parts : List (Part S)) (outcomes : List (Outcome V)) → map (λ p. load p.plan) parts ≡ key ∷ [] → All (λ p. is p.plan) parts
      → AllZip (λ p outcome. IsOutcome m keys region attempts p.region p.plan h outcome) parts outcomes
      → (a : Result (Vec (Result V Error)) Error) → IsAnswer false outcomes a → (b : Result V Error) → IsMerged (λ results result. result ≡ single_of results) a b
      → (p : Part S) × is p.plan × AloneGives p b
  alone key load [] outcomes cut all z a i b g = cc
  alone key load (p ∷ q ∷ parts) outcomes cut all z a i b g = cc
  alone key load (p ∷ []) [] cut all z a i b g = absurd z
  alone key load (p ∷ []) (first ∷ second ∷ outcomes) cut all z a i b g = absurd z.1
  alone key load (p ∷ []) (Ok r ∷ []) cut all z (Ok results) i b g = let items : results.items ≡ r ∷ [] = cc in (p, All-head (λ (x : Part S). is x.plan) p [] all, read b g items)
    where
      read : (b : Result V Error) → IsMerged (λ results result. result ≡ single_of results) (Ok results) b → results.items ≡ r ∷ [] → AloneGives p b
      read (Ok v) same items = let one : r ≡ Ok v = sym (same ∙ ap single_of items) in subst (λ (x : Result V Error). IsResult m keys region p.plan h x) one z.0
      read (Err e) (inl starved) items = inl starved
      read (Err e) (inr same) items = let one : r ≡ Err e = sym (same ∙ ap single_of items) in inr (inl (subst (λ (x : Result V Error). IsResult m keys region p.plan h x) one z.0))
  alone key load (p ∷ []) (Ok r ∷ []) cut all z (Err why) i b g = cc
  alone key load (p ∷ []) (Err why ∷ []) cut all z (Ok results) i b g = cc
  alone key load (p ∷ []) (Err why ∷ []) cut all z (Err first) i (Ok v) g = cc
  alone key load (p ∷ []) (Err why ∷ []) cut all z (Err first) i (Err e) g =
      let same : why ≡ e = let one : why ≡ first = cc in let other : e ≡ first = cc in one ∙ sym other in
      (p, All-head (λ (x : Part S). is x.plan) p [] all, inr (inr (subst (λ (x : Error). IsOutcome m keys region attempts p.region p.plan h (Err x)) same z.0)))

-- What becomes of a part is what became of its request.
module _ {S R V : Type 0} (m : Meaning S (Result V Error)) (request : S → R) (request_of : R → Request) (reply_of : V → Reply) (keys : V → List ErrorView) (region : V → Option RegionErr) (is : R → Type 0)
    (value : (s : S) (h : List Event) (v : V) → m.gives s h (Ok v) → IsReplied reply_of (request_of (request s)) h (Ok v))
    (error : (s : S) (h : List Event) (e : Error) → m.gives s h (Err e) → (e ≡ OutOfMemory) ⊎ IsReplied reply_of (request_of (request s)) h (Err e)) where
  part_answered : (s : S) (h : List Event) (v : V) → is (request s) → m.gives s h (Ok v) → WasAnswered is request_of reply_of h v
  part_answered s h v own g = let r = value s h v g in record { ticket = r.0; request = request s; own = own; taken = r.1 }

  pub part_refused : (s : S) (h : List Event) (e : Error) → is (request s) → IsResult m keys region s h (Err e) → IsRefusedForKeys is request_of reply_of keys h (view_of e)
  part_refused s h e own r = record { answer = r.0; answered = part_answered s h r.0 own r.1; some = r.2; all = r.3 }

  pub part_failed : (attempts : ℕ) (p : Part S) (h : List Event) (e : Error) → is (request p.plan) → IsOutcome m keys region attempts p.region p.plan h (Err e) → HasNoReply is request_of reply_of region attempts h e
  part_failed attempts p h e own (inl o) = elim (error p.plan h e o.given) [ inl starved ↦ inl starved | inr r ↦ inr (inr (inl (record { request = request p.plan; own = own; given = r; spent = o.spent }))) ]
  part_failed attempts p h e own (inr (inl r)) =
      let f = r.refused in
      inr (inr (inr (record {
        answer = f.reply;
        answered = part_answered p.plan h f.reply own f.given;
        error = r.error;
        found = f.found;
        used = p.region;
        delay = r.delay;
        spent = r.spent;
        end = r.end;
      })))
  part_failed attempts p h e own (inr (inr l)) = inr (inl l.1)
