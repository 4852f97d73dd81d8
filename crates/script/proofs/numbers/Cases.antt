-- What a command's numbers come to, word by word. Assumes nothing.
use Prim.Native.Nat.{ℕ, suc, ◌+◌, ◌≤◌, ◌<◌}
use mathlib.Core.Bool.{true, false, cond, ◌&&◌}
use mathlib.Core.List.{List, [], ◌∷◌, map}
use mathlib.Core.Path.{◌≡◌, refl, sym, ◌∙◌}
use native.Mathlib.Nat.{add-zero, zero-add, add-suc, suc-add}
use native.Mathlib.Numerals.{add-one}
use borrow.Author.Tests.{lt-ltb, le-ltb}
use lib.Dec.{ltb, leb, eqb, leb→le}
use lib.ListN.{get_or, drop, set, replicate}
use Rattle.base.proofs.Table.{entry}
use Rattle.words.specs.Words.{skip, front, past, word_at, word_count}
use Rattle.words.specs.Numbers.{largest, number_of}
use Rattle.script.specs.Commands.{sizes}
use Rattle.words.specs.declared.number.NumberFault.{NumberFault}
use Rattle.words.specs.declared.number.NumberFault.TheVariants.{TooLarge}
use Rattle.std.specs.Prelude.{Result, Ok, Err}
use Rattle.std.specs.Result.{result_unwrap_or}
use Rattle.script.specs.Arguments.{leasts, mosts, plains, argument_of, fault_of, fault_up_to, values_up_to, no_numbers, numbers_of}
use Rattle.script.specs.declared.numbers.Numbers.{Numbers}
use Rattle.script.specs.declared.numbers.Takes.{Takes}
use Rattle.script.specs.declared.numbers.TheConstants.{TAKES}
use Rattle.std.proofs.Math.ListN.{get_or-map, get_or-append}

-- word k as a number: one at fault, a byte that is too large, and any other
module _ (plain k : ℕ) (word : List ℕ) where
  pub argument_bad : (fault : NumberFault) → number_of word ≡ Err fault → Err fault ≡ argument_of plain k word
  unfolding argument_of
  argument_bad fault e = rw e

  module _ (n : ℕ) (e : number_of word ≡ Ok n) where
    pub argument_large : (leb plain k && ltb 255 n) ≡ true → Err TooLarge ≡ argument_of plain k word
    unfolding argument_of
    argument_large t = rw (e, t)

    pub argument_plain : (leb plain k && ltb 255 n) ≡ false → Ok n ≡ argument_of plain k word
    unfolding argument_of
    argument_plain t = rw (e, t)

-- a turn over the words: the word there, and the words from the next place on
module _ (rest : List ℕ) (at k : ℕ) (on : (j : ℕ) → word_at j (drop at rest) ≡ word_at (k + j) rest) where
  pub word_here : (word : List ℕ) → word ≡ front (skip (drop at rest)) → word ≡ word_at k rest
  unfolding word_at
  word_here word e = e ∙ rw (add-zero k) at (on 0)

  pub words_next : (to : ℕ) → drop to rest ≡ past (skip (drop at rest)) → (j : ℕ) → word_at j (drop to rest) ≡ word_at (k + 1 + j) rest
  unfolding word_at
  words_next to e j = rw (e, add-one k, suc-add, ← add-suc) (on (suc j))

module _ (plain : ℕ) (rest : List ℕ) (k : ℕ) (word : List ℕ) (n : Result ℕ NumberFault) (ew : word ≡ word_at k rest) (en : n ≡ argument_of plain k word) where
  pub fault_next : (fault r : ℕ) → fault ≡ fault_up_to plain rest k → r ≡ cond (eqb fault 0) (fault_of n) fault → r ≡ fault_up_to plain rest (k + 1)
  unfolding fault_up_to
  fault_next fault r e er = er ∙ rw (add-one k, ← ew, ← en, ← e)

  pub values_next : (values : List ℕ) → values ≡ values_up_to plain rest k → set values k (result_unwrap_or n 0) ≡ values_up_to plain rest (k + 1)
  unfolding values_up_to
  values_next values e = rw (add-one k, ← ew, ← en, ← e)

-- before the first word
pub fault_none : (plain : ℕ) (rest : List ℕ) → 0 ≡ fault_up_to plain rest 0
unfolding fault_up_to
fault_none plain rest = refl

pub values_none : (plain : ℕ) (rest : List ℕ) → replicate 81 0 ≡ values_up_to plain rest 0
unfolding values_up_to
values_none plain rest = refl

pub words_all : (rest : List ℕ) (j : ℕ) → word_at j (drop 0 rest) ≡ word_at (0 + j) rest
words_all rest j = rw (zero-add j)

whole : (r : Numbers) (fault count : ℕ) (values : List ℕ) → r.fault ≡ fault → r.count ≡ count → r.values ≡ values → r ≡ record { fault = fault; count = count; values = values }
whole r fault count values p q s = rw (← p, ← q, ← s)

-- the three ways out of the count
module _ (least most plain : ℕ) (rest : List ℕ) (count : ℕ) (r : Numbers) (ec : count ≡ word_count rest) where
  pub numbers_few : count < least → r ≡ no_numbers 2 → r ≡ numbers_of least most plain rest
  unfolding numbers_of
  numbers_few h e = rw (← ec, lt-ltb count least h) e

  pub numbers_many : least ≤ count → most < count → r ≡ no_numbers 3 → r ≡ numbers_of least most plain rest
  unfolding numbers_of
  numbers_many h k e = rw (← ec, le-ltb count least h, lt-ltb most count k) e

  pub numbers_read : least ≤ count → count ≤ most → r.fault ≡ fault_up_to plain rest count → r.count ≡ count → r.values ≡ values_up_to plain rest count → r ≡ numbers_of least most plain rest
  unfolding numbers_of
  numbers_read h k ef en ev = rw (← ec, le-ltb count least h, le-ltb most count k) (whole r _ _ _ ef en ev)

-- each field of a row stands in its own column
module _ (name : ℕ) where
  abbrev pub row : Takes
  row = get_or TAKES name (record { least = 0; most = 0; plain = 0; size = 0 })

  column : (field : Takes → ℕ) → field row ≡ get_or (map field TAKES) name (field (record { least = 0; most = 0; plain = 0; size = 0 }))
  column field = sym (get_or-map field TAKES name (record { least = 0; most = 0; plain = 0; size = 0 }))

  pub least_is : row.least ≡ get_or leasts name 0
  least_is = column (λ t. t.least)

  pub most_is : row.most ≡ get_or mosts name 0
  most_is = column (λ t. t.most)

  pub plain_is : row.plain ≡ get_or plains name 0
  plain_is = column (λ t. t.plain)

  pub size_is : name < 12 → row.size ≡ get_or sizes name 0
  size_is h = column (λ t. t.size) ∙ get_or-append sizes (largest ∷ []) 0 name h

  pub most_bound : name < 13 → row.most ≤ 81
  most_bound h = rw most_is (leb→le _ _ (entry (λ n most. leb most 81) mosts tt name h))
