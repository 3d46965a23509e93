-- What the store replies to the requests of the one transaction.
use Rattle.std.proofs.Common.{◌≡◌, ℕ, ◌+◌, ◌-◌, ◌*◌, ◌/◌, ◌%◌, ◌^◌, ◌<◌, max, Bool, true, false, not, ◌&&◌, ◌||◌, if◌then◌else◌, List, [], ◌∷◌, Some, None, nat_eq, nat_lt, refl, sym, ap, ◌∙◌, arith}
use Rattle.std.specs.Ordering.{is_gt}
use Rattle.std.proofs.lemmas.Bool.Decides.{nat_tests}
use Rattle.txn_kv.specs.declared.request.Request.TheVariants.{GetRegion}
use Rattle.txn_kv.specs.declared.reply.Reply.TheVariants.{Prewrite as Prewrote, Commit as Committed_reply, GetRegion as Got_region, Tso as Gave}
use Rattle.txn_kv.specs.Timestamp.{timestamp_of}
use Rattle.txn_kv.specs.Versions.{version_of-timestamp_of}
use Rattle.txn_model.specs.declared.cell.Cell.{Cell}
use Rattle.txn_model.specs.Store.{Store, opening}
use Rattle.txn_model.specs.Table.{table}
use Rattle.txn_model.specs.Cells.{key_eq, key_cmp, changed_at}
use Rattle.txn_model.specs.Placement.{region_record, leader_of, told_region, region_holding, last_timestamp, next_timestamp}
use Rattle.txn_model.specs.Commit.{commit_by, first_commit_error, committed as commits_cell}
use Rattle.txn_first.specs.declared.transaction.Put.{Put}
use Rattle.txn_first.specs.Commit.{version_in, prewrite_of, commit_of}
use Rattle.txn_first.specs.Lists.{ask_one}
use Rattle.txn_first.specs.Rowed.{first_region, here, locked_cells}

pub key_itself : (k : List ℕ) → key_eq k k ≡ true
key_itself [] = refl
key_itself (x ∷ k) =
    let h = key_itself k in
    let e : nat_eq x x ≡ true = grind (arith, nat_tests) in
    rw (e, h) refl

-- Timestamps.

pub version_back : (n : ℕ) → n < 2 ^ 64 → version_in (Some (timestamp_of n)) ≡ Some n
version_back n small =
    let a : nat_lt (n / 2 ^ 18) (2 ^ 46) ≡ true = (let l : n / 2 ^ 18 < 2 ^ 46 = omega arith in grind (arith, nat_tests)) in
    let b : nat_lt (n % 2 ^ 18) (2 ^ 18) ≡ true = (let l : n % 2 ^ 18 < 2 ^ 18 = omega arith in grind (arith, nat_tests)) in
    rw (a, b) (ap (λ v. Some v) (version_of-timestamp_of n))

pub last_is : (last clock : ℕ) → clock ≡ 0 → last_timestamp last clock 1 ≡ last + 1
last_is last clock still =
    let next : next_timestamp last clock ≡ last + 1 = ap (λ c. max (last + 1) (c * 2 ^ 18)) still ∙ (let m : max (last + 1) 0 ≡ last + 1 = omega arith in m) in
    let fits : nat_lt (next_timestamp last clock % 2 ^ 18 + (1 - 1)) (2 ^ 18) ≡ true = (let l : next_timestamp last clock % 2 ^ 18 < 2 ^ 18 = omega arith in grind (arith, nat_tests)) in
    ap (λ (b : Bool). (if b then next_timestamp last clock else (next_timestamp last clock / 2 ^ 18 + 1) * 2 ^ 18) + (1 - 1)) fits ∙ (let a = next in omega arith)

pub tso_store : (st : Store) → st.clock ≡ 0 → (table st ask_one).store ≡ record st { last = st.last + 1 }
tso_store st clock = ap (λ n. record st { last = n }) (last_is st.last st.clock clock)

pub tso_reply : (st : Store) → st.clock ≡ 0 → (table st ask_one).reply ≡ Gave (record { count = 1; timestamp = Some (timestamp_of (st.last + 1)) })
tso_reply st clock = ap (λ n. Gave (record { count = 1; timestamp = Some (timestamp_of n) })) (last_is st.last st.clock clock)

-- Regions.

not_above : (k : List ℕ) → is_gt (key_cmp [] k) ≡ false
not_above [] = refl
not_above (x ∷ k) = refl

pub region_reply : (st : Store) (key : List ℕ) → st.regions ≡ opening.regions → (table st (GetRegion (record { region_key = key }))).reply ≡ Got_region (record { region = Some (region_record first_region); leader = Some (leader_of first_region) })
region_reply st key r =
    ap (λ gs. Got_region (told_region (region_holding gs key))) r
    ∙ ap (λ (b : Bool). Got_region (told_region (if not b && (true || false) then Some first_region else None))) (not_above key)

-- Prewrite and commit of the one key.

opened_prewrite : (st : Store) (start : ℕ) (p : Put) → table (record st { cells = []; regions = opening.regions }) (prewrite_of start p here) ≡ record { store = record st { cells = locked_cells start p; regions = opening.regions }; reply = Prewrote (record { region_error = None; errors = []; min_commit_ts = 0; one_pc_commit_ts = 0 }) }
opened_prewrite st start p =
    let none_newer : nat_lt start 0 ≡ false = grind (arith, nat_tests) in
    let same : key_eq p.key p.key ≡ true = key_itself p.key in
    rw (none_newer, same) refl

pub prewrite_table : (st : Store) (start : ℕ) (p : Put) → st.regions ≡ opening.regions → st.cells ≡ [] → table st (prewrite_of start p here) ≡ record { store = record st { cells = locked_cells start p }; reply = Prewrote (record { region_error = None; errors = []; min_commit_ts = 0; one_pc_commit_ts = 0 }) }
prewrite_table st start p r c =
    let there : st ≡ record st { cells = []; regions = opening.regions } = λ i. record st { cells = c i; regions = r i } in
    ap (λ z. table z (prewrite_of start p here)) there
    ∙ opened_prewrite st start p
    ∙ ap (λ gs. record { store = record st { cells = locked_cells start p; regions = gs }; reply = Prewrote (record { region_error = None; errors = []; min_commit_ts = 0; one_pc_commit_ts = 0 }) }) (sym r)

opened_commit : (st : Store) (start : ℕ) (p : Put) (n : ℕ) → table (record st { cells = locked_cells start p; regions = opening.regions }) (commit_of start p here n) ≡ record { store = record st { cells = changed_at (p.key ∷ []) (commits_cell start n) (locked_cells start p); regions = opening.regions }; reply = Committed_reply (record { region_error = None; error = None; commit_version = n }) }
opened_commit st start p n =
    let in_time : nat_lt n 0 ≡ false = grind (arith, nat_tests) in
    let own : nat_eq start start ≡ true = grind (arith, nat_tests) in
    let same : key_eq p.key p.key ≡ true = key_itself p.key in
    ap (λ e. commit_by None e (record st { cells = locked_cells start p; regions = opening.regions }) (record { context = Some here.context; keys = p.key ∷ []; start_version = start; commit_version = n })) (error_none in_time own same)
  where
    error_none : nat_lt n 0 ≡ false → nat_eq start start ≡ true → key_eq p.key p.key ≡ true → first_commit_error (locked_cells start p) (record { context = Some here.context; keys = p.key ∷ []; start_version = start; commit_version = n }) (p.key ∷ []) ≡ None
    error_none a b c = rw (c, b, a) refl

pub commit_table : (st : Store) (start : ℕ) (p : Put) (n : ℕ) → st.regions ≡ opening.regions → st.cells ≡ locked_cells start p → (cs : List Cell) × (table st (commit_of start p here n) ≡ record { store = record st { cells = cs }; reply = Committed_reply (record { region_error = None; error = None; commit_version = n }) })
commit_table st start p n r c =
    let there : st ≡ record st { cells = locked_cells start p; regions = opening.regions } = λ i. record st { cells = c i; regions = r i } in (
      changed_at (p.key ∷ []) (commits_cell start n) (locked_cells start p),
      ap (λ z. table z (commit_of start p here n)) there
          ∙ opened_commit st start p n
          ∙ ap (λ gs. record { store = record st { cells = changed_at (p.key ∷ []) (commits_cell start n) (locked_cells start p); regions = gs }; reply = Committed_reply (record { region_error = None; error = None; commit_version = n }) }) (sym r),
    )
