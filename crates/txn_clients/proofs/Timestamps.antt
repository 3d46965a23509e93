-- Who asks for timestamps in a group, and what they are told.
use Rattle.std.proofs.Common.{◌≡◌, inl, inr, ℕ, ◌+◌, ◌<◌, ◌≤◌, Bool, true, false, not, nat_eq, List, [], ◌∷◌, ◌++◌, length, get_or, take, drop, Option, Some, None, refl, sym, ap, ◌∙◌, subst, arith, length-take}
use Rattle.std.specs.List.{All}
use Rattle.std.specs.Prelude.{IfOk, Result, Ok, Err, if◌then◌else◌, slice_get}
use Rattle.std.proofs.lemmas.Bool.Decides.{nat_tests}
use Rattle.std.proofs.lemmas.List.{length-map, map-append}
use Rattle.std.proofs.lemmas.List.Elements.{All-cons, All-head, All-nil, All-tail}
use Rattle.txn_history.specs.Among.{IsAmong}
use Rattle.txn_history.specs.Faults.{is_loss}
use Rattle.txn_kv.specs.Timestamp.{version_of}
use Rattle.txn_kv.specs.declared.errors.Error.{Error}
use Rattle.txn_kv.specs.declared.reply.Reply.{Reply}
use Rattle.txn_kv.specs.declared.reply.Reply.TheVariants as replies
use Rattle.txn_kv.specs.declared.reply.cluster.TsoResponse.{TsoResponse}
use Rattle.txn_kv.specs.declared.request.Request.TheVariants.{Tso}
use Rattle.txn_kv.specs.declared.request.cluster.TsoRequest.{TsoRequest}
use Rattle.txn_kv.specs.declared.timestamp.Timestamp.{Timestamp}
use Rattle.txn_side.specs.Sight.{AskFor, Gives, GivesIn}
use Rattle.txn_trace.proofs.Granting.{answer_of, behind_small, grant_is}
use Rattle.txn_tso.specs.Oracle.{Answer, HasVersionIfOk, Oracle, answer, answered, answers, askers_out, granted, granted_if, has_version, is_unlike, next_request, with_next_group}
use Rattle.txn_tso.specs.declared.asker.Asker.{Asker}
use Rattle.txn_clients.specs.Groups.{IsRefused, IsTimeFor, IsTimed, lines_in}
use Rattle.txn_clients.specs.Rows.{IsTime}

-- two facts of the value give a third
pub both_if_ok : {T E : Type 0} (r : Result T E) (A B C : T → Type 0) → ((x : T) → A x → B x → C x) → IfOk r A → IfOk r B → IfOk r C
both_if_ok (Ok x) A B C f a b = f x a b
both_if_ok (Err e) A B C f a b = tt

pub some_same : {X : Type 0} {x y : X} → Some x ≡ Some y → x ≡ y
some_same e = cc

pub none_some : {X : Type 0} {x : X} → None ≡ Some x → ⊥
none_some e = cc

-- The group that goes out

abbrev count_in : Option TsoRequest → ℕ
count_in None = 0
count_in (Some r) = r.count

pub waiting : (a : Asker) (rest : List Asker) → not (nat_eq (length (a ∷ rest)) 0) ≡ true
waiting a rest = let e : nat_eq (length (a ∷ rest)) 0 ≡ false = grind (arith, nat_tests) in ap not e

some_group : (queue : List Asker) (out : Option (List Asker)) (r : TsoRequest) (lines : List ℕ)
    → next_request (record { queue = queue; out = out }) ≡ Some r → lines ≡ lines_in (askers_out (with_next_group (record { queue = queue; out = out }))) → (line : ℕ) × AskFor line (Tso r) lines
some_group queue (Some group) r lines e h = absurd (no e)
  where
    no : None ≡ Some r → ⊥
    no q = cc
some_group [] None r lines e h = absurd (no e)
  where
    no : None ≡ Some r → ⊥
    no q = cc
some_group (a ∷ rest) None r lines e h =
    let sent : Some (record { count = length (take 64 (a ∷ rest)) }) ≡ Some r = subst (λ b. (if b then Some (record { count = length (take 64 (a ∷ rest)) }) else None) ≡ Some r) (waiting a rest) e in
    let out : lines ≡ lines_in (take 64 (a ∷ rest)) = subst (λ b. lines ≡ lines_in (askers_out (if b then record { queue = drop 64 (a ∷ rest); out = Some (take 64 (a ∷ rest)) } else record { queue = a ∷ rest; out = None }))) (waiting a rest) h in
    let asked : r.count ≡ length (take 64 (a ∷ rest)) = sym (ap count_in sent) in
    let long : length lines ≡ length (take 64 (a ∷ rest)) = ap length out ∙ length-map (take 64 (a ∷ rest)) (λ (b : Asker). b.line) in
    let most : length (take 64 (a ∷ rest)) ≤ 64 = omega (arith, length-take 64 (a ∷ rest)) in
    (a.line, (lines_in (take 63 rest), out, asked ∙ sym long, omega (arith, asked, most)))

pub group_asks : (o p : Oracle) (q : Option TsoRequest) (r : TsoRequest) (askers : List Asker) (lines : List ℕ)
    → q ≡ next_request o → q ≡ Some r → p ≡ with_next_group o → askers ≡ askers_out p → lines ≡ lines_in askers → (line : ℕ) × AskFor line (Tso r) lines
group_asks o p q r askers lines e f g h k = some_group o.queue o.out r lines (sym e ∙ f) (k ∙ ap lines_in (h ∙ ap askers_out g))

-- in the name of its first asker
pub first_asks : (l line n : ℕ) (r : TsoRequest) (askers xs : List ℕ) → xs ≡ askers → Some line ≡ slice_get xs 0 → n ≡ line → AskFor l (Tso r) askers → AskFor n (Tso r) askers
first_asks l line n r askers xs same first own (rest, e, count, few) = (rest, e ∙ ap (λ k. k ∷ rest) (one (first ∙ ap (λ ys. slice_get ys 0) (same ∙ e)) ∙ sym own), count, few)
  where
    one : Some line ≡ Some l → l ≡ line
    one q = cc

-- What its askers are told

abbrev IsNoLoss : Result Timestamp Error → Type 0
IsNoLoss (Ok t) = Unit {0}
IsNoLoss (Err e) = is_loss e ≡ false

either_no_loss : (b : Bool) (x y : Result Timestamp Error) → IsNoLoss x → IsNoLoss y → IsNoLoss (if b then x else y)
either_no_loss true x y h k = h
either_no_loss false x y h k = k

granted_no_loss : (stamp : Option Timestamp) (given asked behind : ℕ) → IsNoLoss (granted_if stamp given asked behind)
granted_no_loss None given asked behind = refl
granted_no_loss (Some last) given asked behind = either_no_loss (has_version last) (granted last given asked behind) _ (either_no_loss (is_unlike last given asked) _ _ refl tt) refl

answers_no_loss : (reply : TsoResponse) (asked : ℕ) (askers : List Asker) → All (λ (a : Answer). IsNoLoss a.1) (answers reply asked askers)
answers_no_loss reply asked [] = All-nil (λ (a : Answer). IsNoLoss a.1)
answers_no_loss reply asked (a ∷ rest) = All-cons (λ (b : Answer). IsNoLoss b.1) (a, answer reply asked (length rest)) (answers reply asked rest) (granted_no_loss reply.timestamp reply.count asked (length rest)) (answers_no_loss reply asked rest)

fits : (a : Asker) (v : Result Timestamp Error) → HasVersionIfOk (a, v) → IsNoLoss v → IsTimeFor (a, v)
fits a (Ok t) h k = h
fits a (Err e) h k = k

pub times_for : (reply : TsoResponse) (o : Oracle) (given : List Answer) → given ≡ answered reply o → All HasVersionIfOk given → All IsTimeFor given
times_for reply o given e h k d l =
    let a = get_or given k d in
    fits a.0 a.1 (h k d l) (subst (All (λ (b : Answer). IsNoLoss b.1)) (sym e) (answers_no_loss reply (length (askers_out o)) (askers_out o)) k d l)

-- What the reply gives

pub among_so : {X : Type 0} (P : X → Type 0) (xs : List X) (x : X) → All P xs → IsAmong xs x → P x
among_so P [] x all among = absurd among
among_so P (y ∷ ys) x all (inl e) = subst P e (All-head P y ys all)
among_so P (y ∷ ys) x all (inr among) = among_so P ys x (All-tail P y ys all) among

pub refused_none : (given : List Answer) → All IsRefused given → (line version : ℕ) → IsTimed given line version → ⊥
refused_none given all line version w = among_so IsRefused given (w.asker, Ok w.time) all w.among

so_far : (u v l b z : ℕ) → u ≡ v → l ≡ b → u + b ≡ z → v + l ≡ z
so_far u v l b z same long below = omega arith

so_few : (l b n c : ℕ) → l ≡ b → b < n → c ≡ n → l < c
so_few l b n c long small count = omega arith

gives_one : (x : TsoResponse) (group : List Asker) (line version : ℕ) → IsTimed (answers x (length group) group) line version → Gives x (lines_in group) line version
gives_one x group line version w =
    let a = answer_of x (length group) group w.asker (Ok w.time) w.among in
    let small = behind_small a.ahead a.behind w.asker group a.group_is in
    let grant = grant_is x (length group) (length a.behind) w.time small a.given in
    let long : length (lines_in a.behind) ≡ length a.behind = length-map a.behind (λ (b : Asker). b.line) in
    record {
      last = grant.last;
      is_last = grant.here;
      ahead = lines_in a.ahead;
      behind = lines_in a.behind;
      lines = ap lines_in a.group_is ∙ map-append (λ (b : Asker). b.line) a.ahead (w.asker ∷ a.behind) ∙ ap (λ n. lines_in a.ahead ++ n ∷ lines_in a.behind) w.line_is;
      below = so_far (version_of w.time) version (length (lines_in a.behind)) (length a.behind) (version_of grant.last) w.version_is long grant.below;
      within = so_few (length (lines_in a.behind)) (length a.behind) (length group) x.count long small grant.count;
    }

gives_of : (reply : Reply) (given : List Answer) (group : List Asker) → ((times : TsoResponse) → reply ≡ replies.Tso times → given ≡ answers times (length group) group) → (((times : TsoResponse) → reply ≡ replies.Tso times → ⊥) → All IsRefused given)
    → (line version : ℕ) → IsTimed given line version → GivesIn reply (lines_in group) line version
gives_of (replies.Tso x) given group granted refused line version w = gives_one x group line version (subst (λ xs. IsTimed xs line version) (granted x refl) w)
gives_of reply given group granted refused line version w = absurd (refused_none given (refused (λ x e. cc)) line version w)

pub gives_in : (reply : Reply) (askers : List ℕ) (given : List Answer) (group : List Asker) → askers ≡ lines_in group
    → ((times : TsoResponse) → reply ≡ replies.Tso times → given ≡ answers times (length group) group) → (((times : TsoResponse) → reply ≡ replies.Tso times → ⊥) → All IsRefused given)
    → (line version : ℕ) → IsTimed given line version → GivesIn reply askers line version
gives_in reply askers given group e granted refused line version w = subst (λ ls. GivesIn reply ls line version) (sym e) (gives_of reply given group granted refused line version w)

-- who is told of a timestamp is given it
pub timed_by : (given : List Answer) (a : Asker) (r : Result Timestamp Error) (line version : ℕ) → IsAmong given (a, r) → line ≡ a.line → IsTime r version → IsTimed given line version
timed_by given a (Ok t) line version among own is = record { asker = a; time = t; among = among; line_is = sym own; version_is = is }
timed_by given a (Err e) line version among own is = absurd is
