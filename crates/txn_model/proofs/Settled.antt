-- The locks of a region, settled one after another.
use Rattle.std.proofs.Common.{◌≡◌, ℕ, ◌+◌, ◌<◌, Bool, true, false, ◌&&◌, if◌then◌else◌, List, [], ◌∷◌, ◌++◌, take, length, get_or, Option, Some, None, refl, sym, ap, ◌∙◌, subst}
use Rattle.std.specs.Prelude.{nat_eq, nat_lt}
use Rattle.std.proofs.lemmas.List.{take_more}
use Rattle.txn_kv.specs.declared.message.Context.{Context}
use Rattle.txn_kv.specs.declared.message.TxnInfo.{TxnInfo}
use Rattle.txn_kv.specs.declared.request.locks.ResolveLockRequest.{ResolveLockRequest}
use Rattle.txn_model.specs.declared.cell.Cell.{Cell}
use Rattle.txn_model.specs.declared.cell.Lock.{Lock}
use Rattle.txn_model.specs.declared.cell.Write.{Write}
use Rattle.txn_model.specs.declared.change.Change.{Change}
use Rattle.txn_model.specs.declared.region.StoredRegion.{StoredRegion}
use Rattle.txn_model.specs.declared.rule.Rule.TheVariants.{RollBack, Release}
use Rattle.txn_model.specs.declared.unlock.Commitment.{Commitment}
use Rattle.txn_model.specs.Cells.{Key, key_eq, no_cell, cell_at, each_changed, AllAbove, AreInOrder, AreKept}
use Rattle.txn_model.specs.Changes.{made_by, all_made}
use Rattle.txn_model.specs.Commit.{committed}
use Rattle.txn_model.specs.Locks.{owns, is_prewrite, with_commit}
use Rattle.txn_model.specs.Placement.{region_with_id}
use Rattle.txn_model.specs.Ranges.{in_range, cells_in}
use Rattle.txn_model.specs.Resolve.{infos, settled, all_settled, is_in_region, is_in_context}
use Rattle.txn_model.specs.Rules.{rolling_back, unlocking, holds_pessimistic}
use Rattle.txn_model.specs.Settle.{rolled_back, released, with_start}
use Rattle.txn_model.specs.Settling.{all_committed, info_for, info_at, becomes_commit, commitment_by, settling, change_by, commitments, changes, settled_by}
use Rattle.txn_model.proofs.CellLists.{key_of_cell, same_cells, order_each, none_empty_each, cell_each, KeepsKeys}
use Rattle.txn_model.proofs.Keys.{key_itself, differs_if_greater}
use Rattle.txn_model.proofs.Ruling.{makes}
use Rattle.txn_model.proofs.Unlocking.{commit_key_same}

all_committed-append : (xs ys : List Commitment) (c : Cell) → all_committed (xs ++ ys) c ≡ all_committed ys (all_committed xs c)
all_committed-append [] ys c = refl
all_committed-append (x ∷ xs) ys c = all_committed-append xs ys (if key_eq x.key c.key then committed x.start x.commit c else c)

all_made-append : (xs ys : List Change) (c : Cell) → all_made (xs ++ ys) c ≡ all_made ys (all_made xs c)
all_made-append [] ys c = refl
all_made-append (x ∷ xs) ys c = all_made-append xs ys (if key_eq x.key c.key then made_by x c else c)

-- one commitment more
pub commitment_more : (xs : List Commitment) (i : ℕ) (x : Commitment) (cs ds es : List Cell) (k : Key) → i < length xs → x ≡ get_or xs i x → cell_at ds k ≡ all_committed (take i xs) (cell_at cs k) → cell_at es k ≡ (if key_eq x.key k then committed x.start x.commit (cell_at ds k) else cell_at ds k) → cell_at es k ≡ all_committed (take (i + 1) xs) (cell_at cs k)
commitment_more xs i x cs ds es k l is so_far step =
    let c = cell_at cs k in
    step
    ∙ (ap (λ q. if key_eq x.key q then committed x.start x.commit (cell_at ds k) else cell_at ds k) (sym (key_of_cell ds k))
    ∙ (ap (all_committed (x ∷ [])) so_far
    ∙ (sym (all_committed-append (take i xs) (x ∷ []) c) ∙ ap (λ ys. all_committed ys c) (ap (λ y. take i xs ++ y ∷ []) is ∙ sym (take_more xs i x l)))))

committed_key : (xs : List Commitment) (c : Cell) → (all_committed xs c).key ≡ c.key
committed_key [] c = refl
committed_key (x ∷ xs) c = committed_key xs (if key_eq x.key c.key then committed x.start x.commit c else c) ∙ by (key_eq x.key c.key)
  where
    by : (b : Bool) → (if b then committed x.start x.commit c else c).key ≡ c.key
    by true = commit_key_same x.start x.commit c
    by false = refl

-- A start is settled once.

unlocked_settled : (is : List TxnInfo) (k : Key) (ws : List Write) (rs : List ℕ) → all_settled is (record { key = k; lock = None; commits = ws; rolled = rs }) ≡ (let x : Cell = record { key = k; lock = None; commits = ws; rolled = rs } in x)
unlocked_settled [] k ws rs = refl
unlocked_settled (i ∷ is) k ws rs = unlocked_settled is k ws rs

-- what is settled has no lock
settled_once : (i : TxnInfo) (is : List TxnInfo) (k : Key) (l : Lock) (ws : List Write) (rs : List ℕ) → nat_eq l.start i.txn ≡ true → all_settled is (settled i (record { key = k; lock = Some l; commits = ws; rolled = rs })) ≡ settled i (record { key = k; lock = Some l; commits = ws; rolled = rs })
settled_once i is k l ws rs e = rw e (by (is_prewrite l.kind) (nat_lt 0 i.status))
  where
    by : (p b : Bool) → (let x : Cell = (if p then (if b then (if p then record { key = k; lock = None; commits = with_commit (record { start = i.txn; commit = i.status; kind = l.kind; value = l.value }) ws; rolled = rs } else record { key = k; lock = Some l; commits = ws; rolled = rs }) else record { key = k; lock = None; commits = ws; rolled = with_start i.txn rs }) else (if p then record { key = k; lock = Some l; commits = ws; rolled = rs } else record { key = k; lock = None; commits = ws; rolled = rs })) in all_settled is x ≡ x)
    by true true = unlocked_settled is k (with_commit (record { start = i.txn; commit = i.status; kind = l.kind; value = l.value }) ws) rs
    by true false = unlocked_settled is k ws (with_start i.txn rs)
    by false b = unlocked_settled is k ws rs

settled_other : (i : TxnInfo) (k : Key) (l : Lock) (ws : List Write) (rs : List ℕ) → nat_eq l.start i.txn ≡ false → settled i (record { key = k; lock = Some l; commits = ws; rolled = rs }) ≡ (let x : Cell = record { key = k; lock = Some l; commits = ws; rolled = rs } in x)
settled_other i k l ws rs e = rw e refl

all_settled_is : (is : List TxnInfo) (k : Key) (l : Option Lock) (ws : List Write) (rs : List ℕ) → all_settled is (record { key = k; lock = l; commits = ws; rolled = rs }) ≡ settled_by (info_for is l) (record { key = k; lock = l; commits = ws; rolled = rs })
all_settled_is is k None ws rs = unlocked_settled is k ws rs
all_settled_is [] k (Some l) ws rs = refl
all_settled_is (i ∷ is) k (Some l) ws rs = by (nat_eq l.start i.txn) refl (all_settled_is is k (Some l) ws rs)
  where
    by : (b : Bool) → nat_eq l.start i.txn ≡ b → all_settled is (record { key = k; lock = Some l; commits = ws; rolled = rs }) ≡ settled_by (info_for is (Some l)) (record { key = k; lock = Some l; commits = ws; rolled = rs }) → all_settled is (settled i (record { key = k; lock = Some l; commits = ws; rolled = rs })) ≡ settled_by (info_for (i ∷ is) (Some l)) (record { key = k; lock = Some l; commits = ws; rolled = rs })
    by true e rest = settled_once i is k l ws rs e ∙ ap (λ o. settled_by o (record { key = k; lock = Some l; commits = ws; rolled = rs })) (found e)
      where
        found : nat_eq l.start i.txn ≡ true → (let o : Option TxnInfo = Some i in o) ≡ info_for (i ∷ is) (Some l)
        found h = sym (rw h refl)
    by false e rest = ap (all_settled is) (settled_other i k l ws rs e) ∙ (rest ∙ ap (λ o. settled_by o (record { key = k; lock = Some l; commits = ws; rolled = rs })) (passed e))
      where
        passed : nat_eq l.start i.txn ≡ false → info_for is (Some l) ≡ info_for (i ∷ is) (Some l)
        passed h = sym (rw h refl)

-- what becomes of a cell of the region, and of another
pub settled_is : (gs : List StoredRegion) (r : ResolveLockRequest) (c : Cell) → settled_by (info_at gs r c) c ≡ (if is_in_context gs r.context c.key then all_settled (infos r) c else c)
settled_is gs r c = by (is_in_context gs r.context c.key)
  where
    by : (b : Bool) → settled_by (if b then info_for (infos r) c.lock else None) c ≡ (if b then all_settled (infos r) c else c)
    by true = sym (all_settled_is (infos r) c.key c.lock c.commits c.rolled)
    by false = refl

-- What is made ready for a cell does what is to become of it.

one_settled : (o : Option TxnInfo) (c : Cell) → all_made (change_by o c) (all_committed (commitment_by o c) c) ≡ settled_by o c
one_settled None c = refl
one_settled (Some i) c = by (owns c.lock i.txn) (nat_lt 0 i.status) refl
  where
    there : (x : Change) → x.key ≡ c.key → all_made (x ∷ []) c ≡ made_by x c
    there x e = ap (λ b. if b then made_by x c else c) (ap (λ q. key_eq q c.key) e ∙ key_itself c.key)

    by : (a b : Bool) → owns c.lock i.txn ≡ a → all_made (if a && b then [] else (if a then rolling_back i.txn c.key c else unlocking (holds_pessimistic i.txn c) c.key) ∷ []) (all_committed (if a && b then record { key = c.key; start = i.txn; commit = i.status } ∷ [] else []) c) ≡ (if a then (if b then committed i.txn i.status c else rolled_back i.txn c) else released i.txn c)
    by true true e = ap (λ t. if t then committed i.txn i.status c else c) (key_itself c.key)
    by true false e = there (rolling_back i.txn c.key c) refl ∙ makes (RollBack i.txn) c
    by false b e = there (unlocking (holds_pessimistic i.txn c) c.key) refl ∙ makes (Release i.txn) c

-- What is made ready for other cells leaves it.

skip_committed : (o : Option TxnInfo) (c d : Cell) → key_eq c.key d.key ≡ false → all_committed (commitment_by o c) d ≡ d
skip_committed None c d h = refl
skip_committed (Some i) c d h = by (becomes_commit i c)
  where
    by : (b : Bool) → all_committed (if b then record { key = c.key; start = i.txn; commit = i.status } ∷ [] else []) d ≡ d
    by true = ap (λ t. if t then committed i.txn i.status d else d) h
    by false = refl

settling_key : (i : TxnInfo) (c : Cell) → (settling i c).key ≡ c.key
settling_key i c = by (owns c.lock i.txn)
  where
    by : (b : Bool) → (if b then rolling_back i.txn c.key c else unlocking (holds_pessimistic i.txn c) c.key).key ≡ c.key
    by true = refl
    by false = refl

skip_made : (o : Option TxnInfo) (c d : Cell) → key_eq c.key d.key ≡ false → all_made (change_by o c) d ≡ d
skip_made None c d h = refl
skip_made (Some i) c d h = by (becomes_commit i c)
  where
    by : (b : Bool) → all_made (if b then [] else settling i c ∷ []) d ≡ d
    by true = refl
    by false = ap (λ t. if t then made_by (settling i c) d else d) (ap (λ q. key_eq q d.key) (settling_key i c) ∙ h)

module _ (gs : List StoredRegion) (r : ResolveLockRequest) where
  committed_above : (cs : List Cell) (d : Cell) → AllAbove d.key cs → all_committed (commitments gs r cs) d ≡ d
  committed_above [] d a = refl
  committed_above (c ∷ cs) d a =
      all_committed-append (commitment_by (info_at gs r c) c) (commitments gs r cs) d
      ∙ (ap (all_committed (commitments gs r cs)) (skip_committed (info_at gs r c) c d (differs_if_greater d.key c.key a.0)) ∙ committed_above cs d a.1)

  made_above : (cs : List Cell) (d : Cell) → AllAbove d.key cs → all_made (changes gs r cs) d ≡ d
  made_above [] d a = refl
  made_above (c ∷ cs) d a =
      all_made-append (change_by (info_at gs r c) c) (changes gs r cs) d
      ∙ (ap (all_made (changes gs r cs)) (skip_made (info_at gs r c) c d (differs_if_greater d.key c.key a.0)) ∙ made_above cs d a.1)

  none_settled : (j : Key) → settled_by (info_at gs r (no_cell j)) (no_cell j) ≡ no_cell j
  none_settled j = by (is_in_context gs r.context j)
    where
      by : (b : Bool) → settled_by (if b then None else None) (no_cell j) ≡ no_cell j
      by true = refl
      by false = refl

  -- what is made ready for cells in their order does what is to become of each
  each_settled : (cs : List Cell) (j : Key) → AreInOrder cs → all_made (changes gs r cs) (all_committed (commitments gs r cs) (cell_at cs j)) ≡ settled_by (info_at gs r (cell_at cs j)) (cell_at cs j)
  each_settled [] j a = sym (none_settled j)
  each_settled (c ∷ cs) j a = by (key_eq c.key j) refl (each_settled cs j a.1)
    where
      here : all_made (changes gs r (c ∷ cs)) (all_committed (commitments gs r (c ∷ cs)) c) ≡ settled_by (info_at gs r c) c
      here =
          let o = info_at gs r c in
          let e = all_committed (commitment_by o c) c in
          let key : e.key ≡ c.key = committed_key (commitment_by o c) c in
          let first : all_committed (commitments gs r (c ∷ cs)) c ≡ e = all_committed-append (commitment_by o c) (commitments gs r cs) c ∙ committed_above cs e (subst (λ q. AllAbove q cs) (sym key) a.0) in
          let done : all_made (change_by o c) e ≡ settled_by o c = one_settled o c in
          let last : (all_made (change_by o c) e).key ≡ c.key = made_key (change_by o c) e ∙ key in
          ap (all_made (changes gs r (c ∷ cs))) first
          ∙ (all_made-append (change_by o c) (changes gs r cs) e
          ∙ (made_above cs (all_made (change_by o c) e) (subst (λ q. AllAbove q cs) (sym last) a.0) ∙ done))
        where
          made_key : (xs : List Change) (d : Cell) → (all_made xs d).key ≡ d.key
          made_key [] d = refl
          made_key (x ∷ xs) d = made_key xs (if key_eq x.key d.key then made_by x d else d) ∙ on (key_eq x.key d.key)
            where
              on : (b : Bool) → (if b then made_by x d else d).key ≡ d.key
              on true = refl
              on false = refl

      later : key_eq c.key j ≡ false → all_made (changes gs r cs) (all_committed (commitments gs r cs) (cell_at cs j)) ≡ settled_by (info_at gs r (cell_at cs j)) (cell_at cs j) → all_made (changes gs r (c ∷ cs)) (all_committed (commitments gs r (c ∷ cs)) (cell_at cs j)) ≡ settled_by (info_at gs r (cell_at cs j)) (cell_at cs j)
      later h rest =
          let o = info_at gs r c in
          let d = cell_at cs j in
          let e = all_committed (commitments gs r cs) d in
          let key : d.key ≡ j = key_of_cell cs j in
          let first : all_committed (commitments gs r (c ∷ cs)) d ≡ e = all_committed-append (commitment_by o c) (commitments gs r cs) d ∙ ap (all_committed (commitments gs r cs)) (skip_committed o c d (ap (key_eq c.key) key ∙ h)) in
          ap (all_made (changes gs r (c ∷ cs))) first
          ∙ (all_made-append (change_by o c) (changes gs r cs) e
          ∙ (ap (all_made (changes gs r cs)) (skip_made o c e (ap (key_eq c.key) (committed_key (commitments gs r cs) d ∙ key) ∙ h)) ∙ rest))

      by : (b : Bool) → key_eq c.key j ≡ b → all_made (changes gs r cs) (all_committed (commitments gs r cs) (cell_at cs j)) ≡ settled_by (info_at gs r (cell_at cs j)) (cell_at cs j) → all_made (changes gs r (c ∷ cs)) (all_committed (commitments gs r (c ∷ cs)) (if b then c else cell_at cs j)) ≡ settled_by (info_at gs r (if b then c else cell_at cs j)) (if b then c else cell_at cs j)
      by true e rest = here
      by false e rest = later e rest

  pub in_region_keys : KeepsKeys (λ c. if is_in_context gs r.context c.key then all_settled (infos r) c else c)
  in_region_keys c = ap (λ x. x.key) (sym (settled_is gs r c) ∙ sym (one_settled (info_at gs r c) c)) ∙ (changed_key (change_by (info_at gs r c) c) (all_committed (commitment_by (info_at gs r c) c) c) ∙ committed_key (commitment_by (info_at gs r c) c) c)
    where
      changed_key : (xs : List Change) (d : Cell) → (all_made xs d).key ≡ d.key
      changed_key [] d = refl
      changed_key (x ∷ xs) d = changed_key xs (if key_eq x.key d.key then made_by x d else d) ∙ on (key_eq x.key d.key)
        where
          on : (b : Bool) → (if b then made_by x d else d).key ≡ d.key
          on true = refl
          on false = refl

  pub kept_settled : (cs : List Cell) → AreKept cs → AreKept (each_changed (λ c. if is_in_context gs r.context c.key then all_settled (infos r) c else c) cs)
  kept_settled cs kept = record { in_order = order_each (λ c. if is_in_context gs r.context c.key then all_settled (infos r) c else c) in_region_keys cs kept.in_order; none_empty = none_empty_each (λ c. if is_in_context gs r.context c.key then all_settled (infos r) c else c) in_region_keys cs }

  -- cells that show at each key what is made ready are those of the table
  pub settled_is_changed : (cs ds : List Cell) → AreKept cs → AreKept ds → ((j : Key) → cell_at ds j ≡ all_made (changes gs r cs) (all_committed (commitments gs r cs) (cell_at cs j))) → ds ≡ each_changed (λ c. if is_in_context gs r.context c.key then all_settled (infos r) c else c) cs
  settled_is_changed cs ds old new ready =
      let g = λ (c : Cell). if is_in_context gs r.context c.key then all_settled (infos r) c else c in
      let after = kept_settled cs old in
      same_cells ds (each_changed g cs) new.in_order new.none_empty after.in_order after.none_empty
      (λ j. ready j ∙ (each_settled cs j old.in_order ∙ (settled_is gs r (cell_at cs j) ∙ sym (cell_each g in_region_keys cs j old.in_order (λ h. sym (settled_is gs r (no_cell j)) ∙ none_settled j)))))

-- The cells of the region are enough.

module _ (gs : List StoredRegion) (r : ResolveLockRequest) where
  none_committed : (c : Cell) → is_in_context gs r.context c.key ≡ false → commitment_by (info_at gs r c) c ≡ []
  none_committed c h = ap (λ b. commitment_by (if b then info_for (infos r) c.lock else None) c) h

  none_changed : (c : Cell) → is_in_context gs r.context c.key ≡ false → change_by (info_at gs r c) c ≡ []
  none_changed c h = ap (λ b. change_by (if b then info_for (infos r) c.lock else None) c) h

  pub commitments_none : ((k : Key) → is_in_context gs r.context k ≡ false) → (cs : List Cell) → [] ≡ commitments gs r cs
  commitments_none out [] = refl
  commitments_none out (c ∷ cs) = commitments_none out cs ∙ ap (λ xs. xs ++ commitments gs r cs) (sym (none_committed c (out c.key)))

  pub changes_none : ((k : Key) → is_in_context gs r.context k ≡ false) → (cs : List Cell) → [] ≡ changes gs r cs
  changes_none out [] = refl
  changes_none out (c ∷ cs) = changes_none out cs ∙ ap (λ xs. xs ++ changes gs r cs) (sym (none_changed c (out c.key)))

  module _ (low high : Key) (region : (k : Key) → is_in_context gs r.context k ≡ in_range low high k) where
    pub commitments_in : (cs : List Cell) → commitments gs r (cells_in low high cs) ≡ commitments gs r cs
    commitments_in [] = refl
    commitments_in (c ∷ cs) = by (in_range low high c.key) refl (commitments_in cs)
      where
        by : (b : Bool) → in_range low high c.key ≡ b → commitments gs r (cells_in low high cs) ≡ commitments gs r cs → commitments gs r (if b then c ∷ cells_in low high cs else cells_in low high cs) ≡ commitment_by (info_at gs r c) c ++ commitments gs r cs
        by true e rest = ap (λ xs. commitment_by (info_at gs r c) c ++ xs) rest
        by false e rest = rest ∙ ap (λ xs. xs ++ commitments gs r cs) (sym (none_committed c (region c.key ∙ e)))

    pub changes_in : (cs : List Cell) → changes gs r (cells_in low high cs) ≡ changes gs r cs
    changes_in [] = refl
    changes_in (c ∷ cs) = by (in_range low high c.key) refl (changes_in cs)
      where
        by : (b : Bool) → in_range low high c.key ≡ b → changes gs r (cells_in low high cs) ≡ changes gs r cs → changes gs r (if b then c ∷ cells_in low high cs else cells_in low high cs) ≡ change_by (info_at gs r c) c ++ changes gs r cs
        by true e rest = ap (λ xs. change_by (info_at gs r c) c ++ xs) rest
        by false e rest = rest ∙ ap (λ xs. xs ++ changes gs r cs) (sym (none_changed c (region c.key ∙ e)))

  pub in_no_context : r.context ≡ None → (k : Key) → is_in_context gs r.context k ≡ false
  in_no_context e k = ap (λ x. is_in_context gs x k) e

  pub in_no_region : (x : Context) → r.context ≡ Some x → None ≡ region_with_id gs x.region_id → (k : Key) → is_in_context gs r.context k ≡ false
  in_no_region x e f k = ap (λ o. is_in_context gs o k) e ∙ ap (λ g. is_in_region g k) (sym f)

  pub in_the_region : (x : Context) (g : StoredRegion) → r.context ≡ Some x → Some g ≡ region_with_id gs x.region_id → (k : Key) → is_in_context gs r.context k ≡ in_range g.start_key g.end_key k
  in_the_region x g e f k = ap (λ o. is_in_context gs o k) e ∙ ap (λ h. is_in_region h k) (sym f)
