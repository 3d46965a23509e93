-- A line that is read is spelled by its forms, and a line that is spelled so is read.
use Rattle.std.proofs.Common.{◌≡◌, ℕ, ◌<◌, ◌≤◌, Bool, true, false, cond, eqb, ltb, ◌||◌, List, [], ◌∷◌, ◌++◌, length, get_or, map, Option, Some, None, refl, sym, ap, subst, ◌∙◌, arith, inl, inr}
use Rattle.std.specs.Prelude.{codes, bytes_eq, option_map}
use Rattle.std.specs.List.{flat_map, join_with_byte, IsDistinct}
use Rattle.std.proofs.lemmas.Bool.{cases_Bool, cases_lt, eqb-true, eqb-false, ltb-false, ne_eqb, le-ltb}
use Rattle.std.proofs.lemmas.List.{nil_from_length}
use Rattle.std.proofs.lemmas.List.Splits.{join_with_byte-slice_split}
use Rattle.std.proofs.lemmas.Slice.Eq.{bytes_eq-Decides}
use Rattle.txn_kv.specs.declared.ticket.Ticket.{Ticket}
use Rattle.txn_lines.specs.declared.begin_options.BeginOptions.{BeginOptions}
use Rattle.txn_lines.specs.declared.line.Line.{Line}
use Rattle.txn_lines.specs.declared.line.Line.TheVariants as lines
use Rattle.txn_lines.specs.Grammar.{Form, exactly, number, byte_string, ticket, AreWordsOf, OptionName, no_locks, no_regions, is_option, options_of, Item, put, del, lock, insert, check, item_forms, mutation_of, IsWritten, IsSpelled, IsLine}
use Rattle.txn_lines.specs.Reading.{◌>>=◌, Words, words_of, next_word, next_number, next_exactly, ended, number_alone, ticket_alone, string_alone, strings_alone, keys_in, options_after, no_options, mutations_in, begin_in, put_in, insert_in, delete_in, mutate_in, lock_in, lead_in, event_in, words_in, line_in}
use Rattle.txn_lines.proofs.Options.{bind_some, guard_passed, some_is}
use Rattle.txn_lines.proofs.Cuts.{IsFree}
use Rattle.txn_lines.proofs.Splits.{words_again}
use Rattle.txn_lines.proofs.WordLaws.{HaveNoSpace, free_words, number_then, number_next, exactly_then, exactly_next, ended_takes, ended_again, number_alone_takes, number_alone_again, ticket_alone_takes, ticket_alone_again, string_alone_takes, string_alone_again, strings_alone_takes, strings_alone_again}
use Rattle.txn_lines.proofs.KeyLaws.{keys_take, keys_again}
use Rattle.txn_lines.proofs.OptionLaws.{option_forms, options_take, options_again}
use Rattle.txn_lines.proofs.MutationLaws.{mutations_take, mutations_again}

-- ---- words that are read are those of a line

-- the words are a way to write the line
record IsOf (kind : List ℕ) (words : Words) (line : Line) : Type 0 where
  fs : List Form
  written : IsWritten line fs
  spelled : AreWordsOf fs (kind ∷ words)

mapped : {A : Type 0} (make : A → Line) (o : Option A) (line : Line) → option_map make o ≡ Some line → (x : A) × (o ≡ Some x) × (make x ≡ line)
mapped make None line e = absurd cc
mapped make (Some x) line e = (x, refl, some_is (make x) line e)

number_line : (make : ℕ → Line) (text kind : List ℕ) (words : Words) (line : Line) → ((n : ℕ) → IsWritten (make n) (exactly text ∷ number n ∷ []))
    → kind ≡ text → option_map make (number_alone words) ≡ Some line → IsOf kind words line
number_line make text kind words line written is e =
    let n = mapped make (number_alone words) line e in
    subst (IsOf kind words) n.2 (record { fs = exactly text ∷ number n.0 ∷ []; written = written n.0; spelled = (is, number_alone_takes words n.0 n.1) })

ticket_line : (make : Ticket → Line) (text kind : List ℕ) (words : Words) (line : Line) → ((t : Ticket) → IsWritten (make t) (exactly text ∷ ticket t ∷ []))
    → kind ≡ text → option_map make (ticket_alone words) ≡ Some line → IsOf kind words line
ticket_line make text kind words line written is e =
    let t = mapped make (ticket_alone words) line e in
    subst (IsOf kind words) t.2 (record { fs = exactly text ∷ ticket t.0 ∷ []; written = written t.0; spelled = (is, ticket_alone_takes words t.0 t.1) })

client_line : (kind : List ℕ) (words : Words) (line : Line) → kind ≡ codes "client" → ended lines.Client words ≡ Some line → IsOf kind words line
client_line kind words line is e =
    let z = ended_takes lines.Client line words e in
    subst (IsOf kind words) z.1 (record { fs = exactly (codes "client") ∷ []; written = refl; spelled = (is, z.0) })

begin_line : (kind : List ℕ) (words : Words) (line : Line) → kind ≡ codes "begin" → begin_in words ≡ Some line → IsOf kind words line
unfolding begin_in
begin_line kind words line is e =
    let a = bind_some (next_number words) (λ client. next_exactly (codes "opt") client.1 >>= λ rest. options_after no_options rest >>= λ options. Some (lines.Begin client.0 options)) line e in
    let b = bind_some (next_exactly (codes "opt") a.0.1) (λ rest. options_after no_options rest >>= λ options. Some (lines.Begin a.0.0 options)) line a.2 in
    let o = bind_some (options_after no_options b.0) (λ options. Some (lines.Begin a.0.0 options)) line b.2 in
    let named = options_take b.0 o.0 o.1 in
    let fs = option_forms named.names in
    subst (IsOf kind words) (some_is (lines.Begin a.0.0 o.0) line o.2) (record {
      fs = exactly (codes "begin") ∷ number a.0.0 ∷ exactly (codes "opt") ∷ fs;
      written = (named.names, named.distinct, named.options_is, refl);
      spelled = (is, number_then (exactly (codes "opt") ∷ fs) words a.0.0 a.0.1 a.1 (exactly_then fs a.0.1 (codes "opt") b.0 b.1 named.spelled));
    })

put_line : (kind : List ℕ) (words : Words) (line : Line) → kind ≡ codes "put" → put_in words ≡ Some line → IsOf kind words line
unfolding put_in
put_line kind words line is e =
    let a = bind_some (next_number words) (λ t. strings_alone t.1 >>= λ s. Some (lines.Put t.0 s.0 s.1)) line e in
    let s = bind_some (strings_alone a.0.1) (λ s. Some (lines.Put a.0.0 s.0 s.1)) line a.2 in
    let fs = byte_string s.0.0 ∷ byte_string s.0.1 ∷ [] in
    subst (IsOf kind words) (some_is (lines.Put a.0.0 s.0.0 s.0.1) line s.2) (record {
      fs = exactly (codes "put") ∷ number a.0.0 ∷ fs;
      written = refl;
      spelled = (is, number_then fs words a.0.0 a.0.1 a.1 (strings_alone_takes a.0.1 s.0 s.1));
    })

insert_line : (kind : List ℕ) (words : Words) (line : Line) → kind ≡ codes "insert" → insert_in words ≡ Some line → IsOf kind words line
unfolding insert_in
insert_line kind words line is e =
    let a = bind_some (next_number words) (λ t. strings_alone t.1 >>= λ s. Some (lines.Insert t.0 s.0 s.1)) line e in
    let s = bind_some (strings_alone a.0.1) (λ s. Some (lines.Insert a.0.0 s.0 s.1)) line a.2 in
    let fs = byte_string s.0.0 ∷ byte_string s.0.1 ∷ [] in
    subst (IsOf kind words) (some_is (lines.Insert a.0.0 s.0.0 s.0.1) line s.2) (record {
      fs = exactly (codes "insert") ∷ number a.0.0 ∷ fs;
      written = refl;
      spelled = (is, number_then fs words a.0.0 a.0.1 a.1 (strings_alone_takes a.0.1 s.0 s.1));
    })

delete_line : (kind : List ℕ) (words : Words) (line : Line) → kind ≡ codes "delete" → delete_in words ≡ Some line → IsOf kind words line
unfolding delete_in
delete_line kind words line is e =
    let a = bind_some (next_number words) (λ t. string_alone t.1 >>= λ key. Some (lines.Delete t.0 key)) line e in
    let s = bind_some (string_alone a.0.1) (λ key. Some (lines.Delete a.0.0 key)) line a.2 in
    subst (IsOf kind words) (some_is (lines.Delete a.0.0 s.0) line s.2) (record {
      fs = exactly (codes "delete") ∷ number a.0.0 ∷ byte_string s.0 ∷ [];
      written = refl;
      spelled = (is, number_then (byte_string s.0 ∷ []) words a.0.0 a.0.1 a.1 (string_alone_takes a.0.1 s.0 s.1));
    })

mutate_line : (kind : List ℕ) (words : Words) (line : Line) → kind ≡ codes "mutate" → mutate_in words ≡ Some line → IsOf kind words line
unfolding mutate_in
mutate_line kind words line is e =
    let a = bind_some (next_number words) (λ t. mutations_in t.1 >>= λ mutations. Some (lines.Mutate t.0 mutations)) line e in
    let m = bind_some (mutations_in a.0.1) (λ mutations. Some (lines.Mutate a.0.0 mutations)) line a.2 in
    let items = mutations_take a.0.1 m.0 m.1 in
    let fs = flat_map item_forms items.items in
    subst (IsOf kind words) (some_is (lines.Mutate a.0.0 m.0) line m.2) (record {
      fs = exactly (codes "mutate") ∷ number a.0.0 ∷ fs;
      written = (items.items, items.some, items.mutations_is, refl);
      spelled = (is, number_then fs words a.0.0 a.0.1 a.1 items.spelled);
    })

lock_line : (kind : List ℕ) (words : Words) (line : Line) → kind ≡ codes "lock" → lock_in words ≡ Some line → IsOf kind words line
unfolding lock_in
lock_line kind words line is e =
    let a = bind_some (next_number words) (λ t. keys_in t.1 >>= λ keys. Some (lines.Lock t.0 keys)) line e in
    let k = bind_some (keys_in a.0.1) (λ keys. Some (lines.Lock a.0.0 keys)) line a.2 in
    let read = keys_take a.0.1 k.0 k.1 in
    subst (IsOf kind words) (some_is (lines.Lock a.0.0 k.0) line k.2) (record {
      fs = exactly (codes "lock") ∷ number a.0.0 ∷ map byte_string k.0;
      written = (read.0, refl);
      spelled = (is, number_then (map byte_string k.0) words a.0.0 a.0.1 a.1 read.1);
    })

split_line : (kind : List ℕ) (words : Words) (line : Line) → kind ≡ codes "split" → option_map lines.Split (string_alone words) ≡ Some line → IsOf kind words line
split_line kind words line is e =
    let k = mapped lines.Split (string_alone words) line e in
    subst (IsOf kind words) k.2 (record { fs = exactly (codes "split") ∷ byte_string k.0 ∷ []; written = refl; spelled = (is, string_alone_takes words k.0 k.1) })

or_false : (a b : Bool) → (a || b) ≡ false → (a ≡ false) × (b ≡ false)
or_false true b e = absurd cc
or_false false b e = (refl, e)

lead_line : (kind : List ℕ) (words : Words) (line : Line) → kind ≡ codes "lead" → lead_in words ≡ Some line → IsOf kind words line
unfolding lead_in
lead_line kind words line is e =
    let a = bind_some (next_number words) (λ r. number_alone r.1 >>= λ s. cond (eqb s 0 || ltb 3 s) None (Some (lines.Lead r.0 s))) line e in
    let s = bind_some (number_alone a.0.1) (λ s. cond (eqb s 0 || ltb 3 s) None (Some (lines.Lead a.0.0 s))) line a.2 in
    let fits = guard_passed (eqb s.0 0 || ltb 3 s.0) (Some (lines.Lead a.0.0 s.0)) line s.2 in
    let both = or_false (eqb s.0 0) (ltb 3 s.0) fits.0 in
    let low : 1 ≤ s.0 = elim (cases_lt 0 s.0) [ inl lt ↦ omega (arith, lt) | inr le ↦ absurd (eqb-false s.0 0 both.0 (omega (arith, le))) ] in
    let high : s.0 ≤ 3 = ltb-false 3 s.0 both.1 in
    subst (IsOf kind words) (some_is (lines.Lead a.0.0 s.0) line fits.1) (record {
      fs = exactly (codes "lead") ∷ number a.0.0 ∷ number s.0 ∷ [];
      written = (low, high, refl);
      spelled = (is, number_then (number s.0 ∷ []) words a.0.0 a.0.1 a.1 (number_alone_takes a.0.1 s.0 s.1));
    })

-- a test of the first word
chosen : (kind text : List ℕ) (one other : Option Line) (line : Line) (P : Type 0) → (kind ≡ text → one ≡ Some line → P) → (other ≡ Some line → P) → cond (bytes_eq kind text) one other ≡ Some line → P
chosen kind text one other line P so otherwise e = go (bytes_eq kind text) refl e
  where
    go : (b : Bool) → bytes_eq kind text ≡ b → cond b one other ≡ Some line → P
    go true test is = so ((bytes_eq-Decides kind text).0 test) is
    go false test is = otherwise is

event_takes : (kind : List ℕ) (words : Words) (line : Line) → event_in kind words ≡ Some line → IsOf kind words line
unfolding event_in
event_takes kind words line =
    let P = IsOf kind words line in
    chosen kind (codes "serve") _ _ line P (ticket_line lines.Serve (codes "serve") kind words line (λ t. refl))
    (chosen kind (codes "answer") _ _ line P (ticket_line lines.Answer (codes "answer") kind words line (λ t. refl))
    (chosen kind (codes "deliver") _ _ line P (ticket_line lines.Deliver (codes "deliver") kind words line (λ t. refl))
    (chosen kind (codes "lose") _ _ line P (ticket_line lines.Lose (codes "lose") kind words line (λ t. refl))
    (chosen kind (codes "busy") _ _ line P (ticket_line lines.Busy (codes "busy") kind words line (λ t. refl))
    (chosen kind (codes "wake") _ _ line P (ticket_line lines.Wake (codes "wake") kind words line (λ t. refl))
    (chosen kind (codes "split") _ _ line P (split_line kind words line)
    (chosen kind (codes "lead") _ _ line P (lead_line kind words line)
    (chosen kind (codes "clock") _ _ line P (number_line lines.Clock (codes "clock") kind words line (λ n. refl))
    (chosen kind (codes "crash") _ None line P (number_line lines.Crash (codes "crash") kind words line (λ n. refl))
    (λ none. absurd cc))))))))))

words_take : (kind : List ℕ) (words : Words) (line : Line) → words_in kind words ≡ Some line → IsOf kind words line
unfolding words_in
words_take kind words line =
    let P = IsOf kind words line in
    chosen kind (codes "client") _ _ line P (client_line kind words line)
    (chosen kind (codes "begin") _ _ line P (begin_line kind words line)
    (chosen kind (codes "timestamp") _ _ line P (number_line lines.Timestamp (codes "timestamp") kind words line (λ n. refl))
    (chosen kind (codes "put") _ _ line P (put_line kind words line)
    (chosen kind (codes "insert") _ _ line P (insert_line kind words line)
    (chosen kind (codes "delete") _ _ line P (delete_line kind words line)
    (chosen kind (codes "mutate") _ _ line P (mutate_line kind words line)
    (chosen kind (codes "lock") _ _ line P (lock_line kind words line)
    (chosen kind (codes "commit") _ _ line P (number_line lines.Commit (codes "commit") kind words line (λ n. refl))
    (chosen kind (codes "rollback") _ _ line P (number_line lines.Rollback (codes "rollback") kind words line (λ n. refl))
    (event_takes kind words line))))))))))

-- a line that is not blank, by its words
by_words : (bytes : List ℕ) (line : Line) (fs : List Form) → IsWritten line fs → IsSpelled fs bytes → IsLine bytes line
by_words bytes lines.Blank fs written spelled = absurd written
by_words bytes line fs written spelled = (fs, written, spelled)

comment_from : (bytes : List ℕ) → 0 < length bytes → get_or bytes 0 0 ≡ 35 → (comment : List ℕ) × (bytes ≡ codes "#" ++ comment)
comment_from [] long e = absurd (omega arith)
comment_from (b ∷ bytes) long e = (bytes, ap (λ (x : ℕ). x ∷ bytes) e)

text_takes : (bytes : List ℕ) (words : Words) (line : Line) → words_of bytes ≡ words → (next_word words >>= λ w. words_in w.0 w.1) ≡ Some line → IsLine bytes line
text_takes bytes [] line cut e = absurd cc
text_takes bytes (kind ∷ words) line cut e =
    let is = words_take kind words line e in
    let joined : bytes ≡ join_with_byte 32 (kind ∷ words) = sym (join_with_byte-slice_split 32 bytes) ∙ ap (join_with_byte 32) cut in
    by_words bytes line is.fs is.written (kind ∷ words, is.spelled, joined)

pub line_takes : (bytes : List ℕ) (line : Line) → line_in bytes ≡ Some line → IsLine bytes line
unfolding line_in
line_takes bytes line e = elim (cases_Bool (eqb (length bytes) 0)) [
  | inl empty ↦
      let taken : line_in bytes ≡ Some lines.Blank = rw empty refl in
      subst (IsLine bytes) (some_is lines.Blank line (sym taken ∙ e)) (inl (nil_from_length bytes (eqb-true (length bytes) 0 empty)))
  | inr long ↦ elim (cases_Bool (eqb (get_or bytes 0 0) 35)) [
    | inl hash ↦
        let taken : line_in bytes ≡ Some lines.Blank = rw (long, hash) refl in
        subst (IsLine bytes) (some_is lines.Blank line (sym taken ∙ e)) (inr (comment_from bytes (elim (cases_lt 0 (length bytes)) [ inl lt ↦ lt | inr le ↦ absurd (eqb-false (length bytes) 0 long (omega arith)) ]) (eqb-true (get_or bytes 0 0) 35 hash)))
    | inr words ↦
        let taken : line_in bytes ≡ (next_word (words_of bytes) >>= λ w. words_in w.0 w.1) = rw (long, words) refl in
        text_takes bytes (words_of bytes) line refl (sym taken ∙ e)
  ]
]

-- ---- the words of a line are read

moved : (fs gs : List Form) (words : Words) → fs ≡ gs → AreWordsOf fs words → AreWordsOf gs words
moved fs gs words is h = subst (λ (f : List Form). AreWordsOf f words) is h

begin_again : (words : Words) (client : ℕ) (options : BeginOptions) (names : List OptionName) → IsDistinct is_option names → options ≡ options_of names → AreWordsOf (number client ∷ exactly (codes "opt") ∷ option_forms names) words
    → begin_in words ≡ Some (lines.Begin client options)
unfolding begin_in
begin_again words client options names distinct is h =
    let a = number_next (exactly (codes "opt") ∷ option_forms names) words client h in
    let b = exactly_next (option_forms names) a.0 (codes "opt") a.2 in
    rw (a.1, b.1, options_again b.0 names distinct b.2) (ap (λ (o : BeginOptions). Some (lines.Begin client o)) (sym is))

put_again : (words : Words) (transaction : ℕ) (key value : List ℕ) → AreWordsOf (number transaction ∷ byte_string key ∷ byte_string value ∷ []) words → put_in words ≡ Some (lines.Put transaction key value)
unfolding put_in
put_again words transaction key value h =
    let a = number_next (byte_string key ∷ byte_string value ∷ []) words transaction h in
    rw (a.1, strings_alone_again a.0 key value a.2) refl

insert_again : (words : Words) (transaction : ℕ) (key value : List ℕ) → AreWordsOf (number transaction ∷ byte_string key ∷ byte_string value ∷ []) words → insert_in words ≡ Some (lines.Insert transaction key value)
unfolding insert_in
insert_again words transaction key value h =
    let a = number_next (byte_string key ∷ byte_string value ∷ []) words transaction h in
    rw (a.1, strings_alone_again a.0 key value a.2) refl

delete_again : (words : Words) (transaction : ℕ) (key : List ℕ) → AreWordsOf (number transaction ∷ byte_string key ∷ []) words → delete_in words ≡ Some (lines.Delete transaction key)
unfolding delete_in
delete_again words transaction key h =
    let a = number_next (byte_string key ∷ []) words transaction h in
    rw (a.1, string_alone_again a.0 key a.2) refl

mutate_again : (words : Words) (transaction : ℕ) (items : List Item) → 0 < length items → AreWordsOf (number transaction ∷ flat_map item_forms items) words → mutate_in words ≡ Some (lines.Mutate transaction (map mutation_of items))
unfolding mutate_in
mutate_again words transaction items some h =
    let a = number_next (flat_map item_forms items) words transaction h in
    rw (a.1, mutations_again a.0 items some a.2) refl

lock_again : (words : Words) (transaction : ℕ) (keys : List (List ℕ)) → 0 < length keys → AreWordsOf (number transaction ∷ map byte_string keys) words → lock_in words ≡ Some (lines.Lock transaction keys)
unfolding lock_in
lock_again words transaction keys some h =
    let a = number_next (map byte_string keys) words transaction h in
    rw (a.1, keys_again a.0 keys some a.2) refl

lead_again : (words : Words) (region store : ℕ) → 1 ≤ store → store ≤ 3 → AreWordsOf (number region ∷ number store ∷ []) words → lead_in words ≡ Some (lines.Lead region store)
unfolding lead_in
lead_again words region store low high h =
    let a = number_next (number store ∷ []) words region h in
    let some : eqb store 0 ≡ false = ne_eqb store 0 (λ is. omega (arith, is, low)) in
    let few : ltb 3 store ≡ false = le-ltb 3 store high in
    rw (a.1, number_alone_again a.0 store a.2, some, few) refl

read_again : (line : Line) (fs : List Form) (kind : List ℕ) (words : Words) → IsWritten line fs → AreWordsOf fs (kind ∷ words) → words_in kind words ≡ Some line
unfolding words_in event_in
read_again lines.Blank fs kind words written h = absurd written
read_again lines.Client fs kind words written h =
    let s = moved fs _ (kind ∷ words) written h in
    rw s.0 (ended_again lines.Client words s.1)
read_again (lines.Begin client options) fs kind words (names, distinct, is, written) h =
    let s = moved fs (exactly (codes "begin") ∷ number client ∷ exactly (codes "opt") ∷ option_forms names) (kind ∷ words) written h in
    rw s.0 (begin_again words client options names distinct is s.1)
read_again (lines.Timestamp client) fs kind words written h =
    let s = moved fs _ (kind ∷ words) written h in
    rw s.0 (ap (option_map lines.Timestamp) (number_alone_again words client s.1))
read_again (lines.Put transaction key value) fs kind words written h =
    let s = moved fs _ (kind ∷ words) written h in
    rw s.0 (put_again words transaction key value s.1)
read_again (lines.Insert transaction key value) fs kind words written h =
    let s = moved fs _ (kind ∷ words) written h in
    rw s.0 (insert_again words transaction key value s.1)
read_again (lines.Delete transaction key) fs kind words written h =
    let s = moved fs _ (kind ∷ words) written h in
    rw s.0 (delete_again words transaction key s.1)
read_again (lines.Mutate transaction mutations) fs kind words (items, some, is, written) h =
    let s = moved fs (exactly (codes "mutate") ∷ number transaction ∷ flat_map item_forms items) (kind ∷ words) written h in
    rw (s.0, is) (mutate_again words transaction items some s.1)
read_again (lines.Lock transaction keys) fs kind words (some, written) h =
    let s = moved fs (exactly (codes "lock") ∷ number transaction ∷ map byte_string keys) (kind ∷ words) written h in
    rw s.0 (lock_again words transaction keys some s.1)
read_again (lines.Commit transaction) fs kind words written h =
    let s = moved fs _ (kind ∷ words) written h in
    rw s.0 (ap (option_map lines.Commit) (number_alone_again words transaction s.1))
read_again (lines.Rollback transaction) fs kind words written h =
    let s = moved fs _ (kind ∷ words) written h in
    rw s.0 (ap (option_map lines.Rollback) (number_alone_again words transaction s.1))
read_again (lines.Serve t) fs kind words written h =
    let s = moved fs _ (kind ∷ words) written h in
    rw s.0 (ap (option_map lines.Serve) (ticket_alone_again words t s.1))
read_again (lines.Answer t) fs kind words written h =
    let s = moved fs _ (kind ∷ words) written h in
    rw s.0 (ap (option_map lines.Answer) (ticket_alone_again words t s.1))
read_again (lines.Deliver t) fs kind words written h =
    let s = moved fs _ (kind ∷ words) written h in
    rw s.0 (ap (option_map lines.Deliver) (ticket_alone_again words t s.1))
read_again (lines.Lose t) fs kind words written h =
    let s = moved fs _ (kind ∷ words) written h in
    rw s.0 (ap (option_map lines.Lose) (ticket_alone_again words t s.1))
read_again (lines.Busy t) fs kind words written h =
    let s = moved fs _ (kind ∷ words) written h in
    rw s.0 (ap (option_map lines.Busy) (ticket_alone_again words t s.1))
read_again (lines.Wake t) fs kind words written h =
    let s = moved fs _ (kind ∷ words) written h in
    rw s.0 (ap (option_map lines.Wake) (ticket_alone_again words t s.1))
read_again (lines.Split key) fs kind words written h =
    let s = moved fs _ (kind ∷ words) written h in
    rw s.0 (ap (option_map lines.Split) (string_alone_again words key s.1))
read_again (lines.Lead region store) fs kind words (low, high, written) h =
    let s = moved fs (exactly (codes "lead") ∷ number region ∷ number store ∷ []) (kind ∷ words) written h in
    rw s.0 (lead_again words region store low high s.1)
read_again (lines.Clock ms) fs kind words written h =
    let s = moved fs _ (kind ∷ words) written h in
    rw s.0 (ap (option_map lines.Clock) (number_alone_again words ms s.1))
read_again (lines.Crash client) fs kind words written h =
    let s = moved fs _ (kind ∷ words) written h in
    rw s.0 (ap (option_map lines.Crash) (number_alone_again words client s.1))

-- ---- the text of a line

abbrev is_free : ℕ → List ℕ → Bool
is_free c [] = true
is_free c (b ∷ bs) = cond (eqb b c) false (is_free c bs)

unlike : (b c : ℕ) (others : Bool) → cond (eqb b c) false others ≡ true → (eqb b c ≡ false) × (others ≡ true)
unlike b c others e = go (eqb b c) refl e
  where
    go : (test : Bool) → eqb b c ≡ test → cond test false others ≡ true → (eqb b c ≡ false) × (others ≡ true)
    go true is rest = absurd cc
    go false is rest = (is, rest)

from_is_free : (c : ℕ) (bs : List ℕ) → is_free c bs ≡ true → IsFree c bs
from_is_free c [] e = tt
from_is_free c (b ∷ bs) e = let here = unlike b c (is_free c bs) e in (here.0, from_is_free c bs here.1)

-- a first word of a line, which no comment begins with
abbrev is_first_word : List ℕ → Bool
is_first_word [] = false
is_first_word (c ∷ cs) = cond (eqb c 35) false (is_free 32 (c ∷ cs))

-- the forms of a line begin with its first word, and none has a space
record Begins (fs : List Form) : Type 0 where
  word : List ℕ
  others : List Form
  is : fs ≡ exactly word ∷ others
  first : is_first_word word ≡ true
  free : HaveNoSpace others

begins : (word : List ℕ) (others fs : List Form) → is_first_word word ≡ true → HaveNoSpace others → fs ≡ exactly word ∷ others → Begins fs
begins word others fs first free is = record { word = word; others = others; is = is; first = first; free = free }

opt_free : IsFree 32 (codes "opt")
opt_free = from_is_free 32 (codes "opt") refl

options_free : (names : List OptionName) → HaveNoSpace (option_forms names)
options_free [] = tt
options_free (no_locks ∷ names) = (from_is_free 32 (codes "nolocks") refl, options_free names)
options_free (no_regions ∷ names) = (from_is_free 32 (codes "noregions") refl, options_free names)

keys_free : (keys : List (List ℕ)) → HaveNoSpace (map byte_string keys)
keys_free [] = tt
keys_free (key ∷ keys) = (tt, keys_free keys)

items_free : (items : List Item) → HaveNoSpace (flat_map item_forms items)
items_free [] = tt
items_free (put key value ∷ items) = (from_is_free 32 (codes "put") refl, (tt, (tt, items_free items)))
items_free (del key ∷ items) = (from_is_free 32 (codes "del") refl, (tt, items_free items))
items_free (lock key ∷ items) = (from_is_free 32 (codes "lock") refl, (tt, items_free items))
items_free (insert key value ∷ items) = (from_is_free 32 (codes "insert") refl, (tt, (tt, items_free items)))
items_free (check key ∷ items) = (from_is_free 32 (codes "check") refl, (tt, items_free items))

line_begins : (line : Line) (fs : List Form) → IsWritten line fs → Begins fs
line_begins lines.Blank fs written = absurd written
line_begins lines.Client fs written = begins (codes "client") _ fs refl tt written
line_begins (lines.Begin client options) fs (names, distinct, is, written) = begins (codes "begin") _ fs refl (tt, (opt_free, options_free names)) written
line_begins (lines.Timestamp client) fs written = begins (codes "timestamp") _ fs refl (tt, tt) written
line_begins (lines.Put transaction key value) fs written = begins (codes "put") _ fs refl (tt, (tt, (tt, tt))) written
line_begins (lines.Insert transaction key value) fs written = begins (codes "insert") _ fs refl (tt, (tt, (tt, tt))) written
line_begins (lines.Delete transaction key) fs written = begins (codes "delete") _ fs refl (tt, (tt, tt)) written
line_begins (lines.Mutate transaction mutations) fs (items, some, is, written) = begins (codes "mutate") _ fs refl (tt, items_free items) written
line_begins (lines.Lock transaction keys) fs (some, written) = begins (codes "lock") _ fs refl (tt, keys_free keys) written
line_begins (lines.Commit transaction) fs written = begins (codes "commit") _ fs refl (tt, tt) written
line_begins (lines.Rollback transaction) fs written = begins (codes "rollback") _ fs refl (tt, tt) written
line_begins (lines.Serve t) fs written = begins (codes "serve") _ fs refl (tt, tt) written
line_begins (lines.Answer t) fs written = begins (codes "answer") _ fs refl (tt, tt) written
line_begins (lines.Deliver t) fs written = begins (codes "deliver") _ fs refl (tt, tt) written
line_begins (lines.Lose t) fs written = begins (codes "lose") _ fs refl (tt, tt) written
line_begins (lines.Busy t) fs written = begins (codes "busy") _ fs refl (tt, tt) written
line_begins (lines.Wake t) fs written = begins (codes "wake") _ fs refl (tt, tt) written
line_begins (lines.Split key) fs written = begins (codes "split") _ fs refl (tt, tt) written
line_begins (lines.Lead region store) fs (low, high, written) = begins (codes "lead") _ fs refl (tt, (tt, tt)) written
line_begins (lines.Clock ms) fs written = begins (codes "clock") _ fs refl (tt, tt) written
line_begins (lines.Crash client) fs written = begins (codes "crash") _ fs refl (tt, tt) written

-- the text of words begins as the first of them
begins_so : (c : ℕ) (cs : List ℕ) (words : Words) → (more : List ℕ) × (join_with_byte 32 ((c ∷ cs) ∷ words) ≡ c ∷ more)
begins_so c cs [] = (cs, refl)
begins_so c cs (w ∷ words) = (cs ++ 32 ∷ join_with_byte 32 (w ∷ words), refl)

-- a text that begins with the first word of a line is read by its words
read_by_words : (c : ℕ) (more bytes : List ℕ) (words : Words) → bytes ≡ c ∷ more → eqb c 35 ≡ false → words_of bytes ≡ words → line_in bytes ≡ (next_word words >>= λ w. words_in w.0 w.1)
unfolding line_in
read_by_words c more bytes words is not_hash cut =
    let long : eqb (length bytes) 0 ≡ false = rw is (ne_eqb (length (c ∷ more)) 0 (λ is_zero. omega (arith, is_zero))) in
    let other : eqb (get_or bytes 0 0) 35 ≡ false = rw is not_hash in
    rw (long, other, cut) refl

text_again : (bytes : List ℕ) (line : Line) (fs : List Form) (word : List ℕ) (others : List Form) (words : Words) → fs ≡ exactly word ∷ others → is_first_word word ≡ true → HaveNoSpace others
    → IsWritten line fs → AreWordsOf fs words → bytes ≡ join_with_byte 32 words → line_in bytes ≡ Some line
text_again bytes line fs [] others words is first free written are joined = absurd cc
text_again bytes line fs (c ∷ cs) others [] is first free written are joined = absurd (moved fs (exactly (c ∷ cs) ∷ others) [] is are)
text_again bytes line fs (c ∷ cs) others (kind ∷ words) is first free written are joined =
    let byte = unlike c 35 (is_free 32 (c ∷ cs)) first in
    let forms = moved fs (exactly (c ∷ cs) ∷ others) (kind ∷ words) is are in
    let all_free : HaveNoSpace (exactly (c ∷ cs) ∷ others) = (from_is_free 32 (c ∷ cs) byte.1, free) in
    let cut : words_of bytes ≡ kind ∷ words = ap words_of joined ∙ words_again kind words (free_words (exactly (c ∷ cs) ∷ others) (kind ∷ words) all_free forms) in
    let begin = begins_so c cs words in
    let bytes_are : bytes ≡ c ∷ begin.0 = joined ∙ ap (λ (k : List ℕ). join_with_byte 32 (k ∷ words)) forms.0 ∙ begin.1 in
    read_by_words c begin.0 bytes (kind ∷ words) bytes_are byte.0 cut ∙ read_again line fs kind words written are

spelled_again : (bytes : List ℕ) (line : Line) (fs : List Form) → IsWritten line fs → IsSpelled fs bytes → line_in bytes ≡ Some line
spelled_again bytes line fs written (words, are, joined) =
    let begin = line_begins line fs written in
    text_again bytes line fs begin.word begin.others words begin.is begin.first begin.free written are joined

pub line_again : (bytes : List ℕ) (line : Line) → IsLine bytes line → line_in bytes ≡ Some line
unfolding line_in
line_again bytes lines.Blank (inl empty) = rw empty refl
line_again bytes lines.Blank (inr (comment, is)) = rw (is, ne_eqb (length (35 ∷ comment)) 0 (λ is_zero. omega (arith, is_zero))) refl
line_again bytes line h = spelled_again bytes line h.0 h.1 h.2

-- bytes are a spelling of one line at most
pub one_line : (bytes : List ℕ) (a b : Line) → IsLine bytes a → IsLine bytes b → a ≡ b
one_line bytes a b ha hb = some_is a b (sym (line_again bytes a ha) ∙ line_again bytes b hb)

-- bytes that are not read are a spelling of no line
pub no_line : (bytes : List ℕ) → line_in bytes ≡ None → (line : Line) → IsLine bytes line → ⊥
no_line bytes none line h = absurd (cc (none, line_again bytes line h))
