-- The items that the Oks of an iterator become, with its Errs between them.
use Rattle.std.specs.Prelude.{◌≡◌, ◌+◌, Option, Some, None, Result, Ok, Err, MatchOption, MatchResult, option_map, ⊤}
use Rattle.std.specs.Option.{option_len}
use Rattle.std.specs.Iterator.{Count, at_most, count_map, CallableAtEachTurn}
use Rattle.std.specs.Fn.{Called, Mut, Takes}
use Rattle.txn_kv.specs.declared.flat_map_ok.OkItems.{OkItems}
use Rattle.txn_kv.specs.declared.flat_map_ok.OkSource.{OkSource}

-- what an inner iterator has left, if there is one
abbrev pub inner_left : {J : Type 0} → (J → Count) → Option J → Count
inner_left left None = at_most 0
inner_left left (Some j) = left j

-- how many items one result still gives: its error, and what its own iterator has left
abbrev pub ok_items_left : {J E : Type 0} → (J → Count) → OkItems J E → Count
ok_items_left left s = count_map (λ n. n + option_len s.fault) (inner_left left s.items)

-- an error comes once; else what the inner iterator gives comes in an Ok
abbrev pub ok_items_steps : {J A E : Type 0} → (J → Option A → J → Type 0) → OkItems J E → Option (Result A E) → OkItems J E → Type 0
ok_items_steps {J} {A} {E} steps s r t = MatchOption s.fault
    (MatchOption s.items (r ≡ None) (λ j. (o : Option A) × (k : J) × steps j o k × (r ≡ option_map Ok o) × (t.items ≡ Some k)) × (t.fault ≡ None))
    (λ e. (r ≡ Some (Err e)) × (t.items ≡ s.items) × (t.fault ≡ None))

-- f may be called at each Ok that may come
abbrev pub CallableOnOk : {S T E F R : Type 0} → (S → Option (Result T E) → S → Type 0) → Mut F (T × Unit {0}) R → S → F → Type 0
CallableOnOk {R = R} steps g s f = CallableAtEachTurn steps (λ p x q. MatchResult x (λ v. (r : R) × Called g p (v, tt) r q) (λ _. q ≡ p)) (λ p x. MatchResult x (λ v. Takes g p (v, tt)) (λ _. ⊤)) s f

-- a result becomes the items of f's answer, or its error
abbrev pub ok_item_is : {T J E F R : Type 0} → Mut F (T × Unit {0}) R → (R → J → Type 0) → F → Result T E → OkItems J E → F → Type 0
ok_item_is {J = J} {R = R} g becomes f (Ok v) y f' = (r : R) × (j : J) × Called g f (v, tt) r f' × becomes r j × (y ≡ record { items = Some j; fault = None })
ok_item_is g becomes f (Err e) y f' = (y ≡ record { items = None; fault = Some e }) × (f' ≡ f)

-- each call turns the next result of the source
abbrev pub ok_source_steps : {S T J E F R : Type 0} → (S → Option (Result T E) → S → Type 0) → Mut F (T × Unit {0}) R → (R → J → Type 0) → OkSource S F → Option (OkItems J E) → OkSource S F → Type 0
ok_source_steps {T = T} {E = E} steps g becomes s r t = MatchOption r (steps s.results None t.results × (t.f ≡ s.f))
    (λ y. (x : Result T E) × steps s.results (Some x) t.results × ok_item_is g becomes s.f x y t.f)
