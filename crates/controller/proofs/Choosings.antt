-- How a choice is put together, over plain numbers.
use Rattle.std.proofs.Common.{◌≡◌, ℕ, zero, suc, ◌<◌, ◌≤◌, min, max, Bool, true, false, eqb, ltb, List, [], ◌∷◌, length, get_or, ℤ, Some, None, Ok, Option, refl, subst, ⊎_elim, arith, w64, SFits, to_z, of_z}
use Rattle.std.proofs.lemmas.Bool.{cases_lt}
use Rattle.std.proofs.lemmas.Int.{to_z-of_z}
use Rattle.model.specs.Meaning.{Meaning}
use Rattle.model.specs.declared.room.Room.{Room}
use Rattle.flat.specs.declared.subtype.Subtype.{Subtype}
use Rattle.flat.specs.Flat.{ac_log, code_of, log_q_of, subtype_of_code}
use Rattle.quantize.specs.Answer.{parameters_of, Lawful}
use Rattle.quantize.specs.declared.answer.QuantizerParameters.{QuantizerParameters}
use Rattle.outlook.specs.declared.counts.Counts.{Counts}
use Rattle.search.specs.declared.found.Found.{Found}
use Rattle.search.specs.Hunt.{hunt, Hits}
use Rattle.search.specs.Predict.{forecast}
use Rattle.aim.specs.declared.bounds.Aim.{Aim}
use Rattle.aim.specs.Bounds.{highest_of, near, under, over}
use Rattle.calls.specs.declared.answer.Answer.{Answer}
use Rattle.calls.specs.declared.answer.Decision.{Decision}
use Rattle.calls.specs.declared.call.Call.{Call}
use Rattle.calls.specs.declared.call.Call.TheVariants.{Choose}
use Rattle.controller.specs.declared.state.Core.{Core}
use Rattle.controller.specs.declared.ticket.Choice.{Choice}
use Rattle.controller.specs.declared.ticket.Ticket.{Ticket}
use Rattle.controller.specs.After.{any_out, next_number, chosen_core}
use Rattle.controller.specs.Choosing.{ahead, room_of, total, bottom, top, found_for, aimed, decision, chosen, choose_after, issued, Decides}
use Rattle.controller.specs.Performing.{entries_at, of_choose, answer_to, core_after, model_after}

abbrev tz : ℤ → ℤ
tz x = to_z w64 (of_z w64 x)

module _ {M : Type 0} (meaning : Meaning M) (s : Core) (m : M) where
  pub record Looked (a : Counts) (t : ℤ) (r : Found) : Type 0 where
    pub exact : r ≡ found_for meaning s m a t
    pub few : r.tries ≤ 60
    pub hits : Hits (forecast meaning m a.kinds) t (bottom s) (top s) r.base

  pub looked : (a : Counts) (t : ℤ) (h : ℕ) (b u : ℤ) (r : Found) → s.profile.lowest ≤ highest_of s.profile.highest → SFits w64 t
      → h ≡ highest_of s.profile.highest → b ≡ ac_log (min s.profile.lowest h) s.profile.depth → u ≡ ac_log (max s.profile.lowest h) s.profile.depth
      → r ≡ hunt (forecast meaning m a.kinds) (tz t) 60 b u 0 → r.tries ≤ 60 → Hits (forecast meaning m a.kinds) (tz t) b u r.base
      → Looked a t r
  unfolding found_for bottom top
  looked a t h b u r o ft eh eb eu er few hits =
      let zt = to_z-of_z w64 t ft in
      let lo : min s.profile.lowest h ≡ s.profile.lowest = omega (arith, eh, o) in
      let hi : max s.profile.lowest h ≡ highest_of s.profile.highest = omega (arith, eh, o) in
      let b1 : b ≡ ac_log s.profile.lowest s.profile.depth = rw lo at eb in
      let u1 : u ≡ ac_log (highest_of s.profile.highest) s.profile.depth = rw hi at eu in
      record { exact = rw (zt, b1, u1) at er; few = few; hits = rw (zt, b1, u1) at hits }

  pub aim_is : (k : Subtype) (previous : Option ℤ) (found b q l : ℤ) (e : ℕ) (room : Room) (u r : Aim)
      → SFits w64 found → SFits w64 b → SFits w64 q → SFits w64 l
      → b ≡ near previous (tz found) → e ≡ code_of k → q ≡ log_q_of k (tz b) → room ≡ room_of s
      → l ≡ meaning.trimmed m e (tz q) room
      → u ≡ under s.profile.highest s.profile.depth k (record { log_base_q = tz b; log_q = tz l })
      → r ≡ over s.profile.lowest s.profile.depth k u
      → r ≡ aimed meaning s m k previous found
  unfolding aimed
  aim_is k previous found b q l e room u r ff fb fq fl eb ee eq eh el eu er =
      let zf = to_z-of_z w64 found ff in
      let zb = to_z-of_z w64 b fb in
      let zq = to_z-of_z w64 q fq in
      let zl = to_z-of_z w64 l fl in
      let b1 : b ≡ near previous found = rw zf at eb in
      let q1 : q ≡ log_q_of k b = rw zb at eq in
      let l1 : l ≡ meaning.trimmed m (code_of k) (log_q_of k b) (room_of s) = rw (zq, eh, q1, ee) at el in
      let u1 : u ≡ under s.profile.highest s.profile.depth k (record { log_base_q = b; log_q = l }) = rw (zb, zl) at eu in
      rw (er, u1, l1, b1)

  pub record Decided (a : Counts) (k : Subtype) (previous : Option ℤ) (mean : ℤ) (r : Decision) : Type 0 where
    pub exact : r ≡ decision meaning s m a k previous mean
    pub decides : Decides (forecast meaning m a.kinds) s r

  pub decided_is : (a : Counts) (k : Subtype) (previous : Option ℤ) (mean t : ℤ) (intra : Bool) (f : Found) (x : Aim) (z : QuantizerParameters)
      → SFits w64 mean → SFits w64 t → SFits w64 f.base → SFits w64 x.log_base_q → SFits w64 x.log_q
      → t ≡ total s a → f ≡ found_for meaning s m a (tz t) → f.tries ≤ 60 → Hits (forecast meaning m a.kinds) (tz t) (bottom s) (top s) f.base
      → x ≡ aimed meaning s m k previous (tz f.base) → intra ≡ eqb (code_of k) 0
      → z ≡ parameters_of (tz x.log_base_q) (tz x.log_q) s.profile.depth s.profile.sampling intra (tz mean)
      → Lawful s.profile.sampling z
      → Decided a k previous mean (record { found = tz f.base; total = tz t; tries = f.tries; quantizer = z })
  unfolding decision
  decided_is a k previous mean t intra f x z fm ft ff fb fq et ef few hits ex ee ez lawful =
      let zm = to_z-of_z w64 mean fm in
      let zt = to_z-of_z w64 t ft in
      let zf = to_z-of_z w64 f.base ff in
      let zb = to_z-of_z w64 x.log_base_q fb in
      let zq = to_z-of_z w64 x.log_q fq in
      let h1 : Hits (forecast meaning m a.kinds) t (bottom s) (top s) f.base = rw zt at hits in
      let f1 : f ≡ found_for meaning s m a t = rw zt at ef in
      let x1 : x ≡ aimed meaning s m k previous f.base = rw zf at ex in
      let z1 : z ≡ parameters_of x.log_base_q x.log_q s.profile.depth s.profile.sampling (eqb (code_of k) 0) mean = rw (zm, zb, zq, ee) at ez in
      let d : ◌≡◌ {A = Decision} (record { found = f.base; total = t; tries = f.tries; quantizer = z }) (decision meaning s m a k previous mean) = rw (z1, x1, f1, et) in
      rw (zt, zf) (record { exact = d; decides = record { few = few; hits = h1; lawful = lawful } })

  -- an accepted choice, once its questions are answered by yes
  pub record Chose (entries : List ℕ) (k : ℕ) (previous : Option ℤ) (mean : ℤ) (s2 : Core) (c : Choice) : Type 0 where
    pub answer : Ok c ≡ issued s (choose_after meaning s m entries k previous mean).answer
    pub core : s2 ≡ (choose_after meaning s m entries k previous mean).core
    pub decides : Decides (forecast meaning m (ahead s entries).kinds) s c.decision

  pub chose : (entries : List ℕ) (k : ℕ) (kind : Subtype) (previous : Option ℤ) (mean : ℤ) (b : Counts) (d : Decision) (n : ℕ) (t : Ticket) (s2 : Core)
      → any_out s.out ≡ false → subtype_of_code k ≡ Some kind → SFits w64 mean → SFits w64 d.quantizer.log_target_q
      → b ≡ ahead s entries → d ≡ decision meaning s m b kind previous (tz mean) → Decides (forecast meaning m b.kinds) s d
      → n ≡ next_number s → t ≡ record { number = n; spent = false } → s2 ≡ chosen_core s (record { subtype = kind; log_q = tz d.quantizer.log_target_q })
      → Chose entries k previous mean s2 (record { ticket = t; decision = d })
  chose entries k kind previous mean b d n t s2 free some fm fq eb ed h en et es =
      let zm = to_z-of_z w64 mean fm in
      let zq = to_z-of_z w64 d.quantizer.log_target_q fq in
      let d1 : d ≡ decision meaning s m (ahead s entries) kind previous mean = rw (zm, eb) at ed in
      let s1 : s2 ≡ chosen_core s (record { subtype = kind; log_q = d.quantizer.log_target_q }) = rw zq at es in
      let a : choose_after meaning s m entries k previous mean ≡ chosen meaning s m d kind = rw (free, some, d1) in
      record {
        answer = rw (a, et, en);
        core = rw (a, s1);
        decides = subst (λ (x : Counts). Decides (forecast meaning m x.kinds) s d) eb h;
      }

-- a code with a subtype is below 4
beyond : (k n : ℕ) → n < k → eqb k n ≡ false
beyond k n l = grind arith

below : (k n : ℕ) → k < n → ltb k n ≡ true
below k n l = grind arith

pub known_code : (k : ℕ) (x : Subtype) → subtype_of_code k ≡ Some x → ltb k 4 ≡ true
known_code k x e =
    ⊎_elim (λ (l : k < 4). below k 4 l)
    (λ (l : 4 ≤ k).
    let a = beyond k 0 (omega arith) in
    let b = beyond k 1 (omega arith) in
    let c = beyond k 2 (omega arith) in
    let d = beyond k 3 (omega arith) in
    let n : ◌≡◌ {A = Option Subtype} None (Some x) = rw (a, b, c, d) at e in
    absurd (let z : ◌≡◌ {A = ℕ} 0 1 = cc in omega arith))
    (cases_lt k 4)

-- the outlook at a place
pub entries_in : {O : Type 0} (entries : O → List ℕ) (os : List O) (i : ℕ) (d : O) → i < length os → entries_at entries os i ≡ entries (get_or os i d)
entries_in entries [] i d l = absurd (omega arith)
entries_in entries (o ∷ os) zero d l = refl
entries_in entries (o ∷ os) (suc i) d l = entries_in entries os i d (omega arith)

-- no outlook past the end
pub entries_out : {O : Type 0} (entries : O → List ℕ) (os : List O) (i : ℕ) → length os ≤ i → entries_at entries os i ≡ []
entries_out entries [] i l = refl
entries_out entries (o ∷ os) zero l = absurd (omega arith)
entries_out entries (o ∷ os) (suc i) l = entries_out entries os i (omega arith)

-- a recorded choice is the choice over the entries at its place
module _ {M O : Type 0} (meaning : Meaning M) (entries : O → List ℕ) (os : List O) (s : Core) (m : M) where
  pub record Performed (call : Call) (r : Answer) (s2 : Core) (m2 : M) : Type 0 where
    pub answer : r ≡ answer_to meaning entries os s m call
    pub core : s2 ≡ core_after meaning entries os s m call
    pub model : m2 ≡ model_after meaning entries os s m call

  pub performed : (call : Call) (k i : ℕ) (previous : Option ℤ) (mean : ℤ) (es : List ℕ) (r : Answer) (s2 : Core) (m2 : M)
      → call ≡ Choose k i previous mean → SFits w64 mean → entries_at entries os i ≡ es
      → r ≡ of_choose (next_number s) (choose_after meaning s m es k previous (tz mean)).answer
      → s2 ≡ (choose_after meaning s m es k previous (tz mean)).core → m2 ≡ m
      → Performed call r s2 m2
  performed call k i previous mean es r s2 m2 ec fm ee er es2 em =
      let zm = to_z-of_z w64 mean fm in
      let r1 : r ≡ of_choose (next_number s) (choose_after meaning s m (entries_at entries os i) k previous mean).answer = rw (zm, ← ee) at er in
      let s1 : s2 ≡ (choose_after meaning s m (entries_at entries os i) k previous mean).core = rw (zm, ← ee) at es2 in
      rw ec (record { answer = r1; core = s1; model = em })
