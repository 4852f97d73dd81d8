-- What nine bytes tell of the pixels put out (02, Q-1): of any two fields, whatever they were ticked with and whatever was written between their
-- ticks. m, n: the machines after the calls. Assumes nothing.
use Rattle.std.specs.Prelude.{ℕ, ◌+◌, ◌%◌, ◌^◌, ◌<◌, Bool, true, List, ◌≡◌}
use Rattle.vault.specs.Nine.{nine_bytes}
use Rattle.pixel.specs.declared.Sums.{Sums}
use Rattle.machine.specs.Rules.{beginning, answered}
use Rattle.machine.specs.Words.{checksum_words}
use Rattle.machine.specs.declared.Machine.{Machine}
use Rattle.demands.specs.Asked.{Asked, after_every}
use Rattle.demands.specs.Demand2.{checksums_read}
use Rattle.calls.specs.Nine.{nine_of}
use Rattle.checksums.specs.Field.{put_out, in_flyback}
use Rattle.checksums.specs.Apart.{OneApart, ChangedAbout, total, Rises, AllRise, Stuck}

-- the totals of the bytes that the last field has put out, modulo 2^24
abbrev pub totals_of : List Asked → Sums
totals_of calls =
    record {
      red = total 0 (put_out calls) % 2 ^ 24;
      green = total 1 (put_out calls) % 2 ^ 24;
      blue = total 2 (put_out calls) % 2 ^ 24;
    }

-- the nine bytes that `nine` gives
abbrev pub nine_given : Machine → List ℕ
nine_given m = nine_bytes (nine_of m).words

-- they can be had: no read of #0C0, #0C1 and #0C2 is refused, and `nine` gives what the three give
pub record Readable (m : Machine) : Type 0 where
  pub reads : (k : ℕ) → k < 3 → (answered m (0x0C0 + k)).refusal ≡ 0
  pub unrefused : (nine_of m).refusal ≡ 0
  pub given : (nine_of m).words ≡ checksums_read m

pub record Told (calls others : List Asked) (m n : Machine) : Type 0 where
  pub readable : Readable m
  pub readable_too : Readable n
  -- the words read are those of the totals of what was put out
  pub totals : (nine_of m).words ≡ checksum_words (totals_of calls)
  pub totals_too : (nine_of n).words ≡ checksum_words (totals_of others)
  -- the same pixels: the nine bytes are equal
  pub same : put_out calls ≡ put_out others → nine_given m ≡ nine_given n
  -- one pixel is another: the nine bytes differ
  pub one_apart : OneApart (put_out calls) (put_out others) → nine_given m ≡ nine_given n → ⊥
  -- two pixels have changed about: the nine bytes are equal
  pub changed_about : ChangedAbout (put_out calls) (put_out others) → nine_given m ≡ nine_given n
  -- every byte stays or rises, or every one stays or falls
  pub all_rise : AllRise (put_out calls) (put_out others) → nine_given m ≡ nine_given n → ⊥
  pub all_fall : AllRise (put_out others) (put_out calls) → nine_given m ≡ nine_given n → ⊥
  -- the bytes of one channel do, whatever those of the others do
  pub rises : (channel : ℕ) → channel < 3 → Rises channel (put_out calls) (put_out others) → nine_given m ≡ nine_given n → ⊥
  pub falls : (channel : ℕ) → channel < 3 → Rises channel (put_out others) (put_out calls) → nine_given m ≡ nine_given n → ⊥
  -- so a colour line that is stuck is seen, while fewer than 131,072 pixels are wrong by it
  pub stuck : (channel line : ℕ) (high : Bool) → channel < 3 → line < 8 → Stuck channel line high (put_out calls) (put_out others) → nine_given m ≡ nine_given n → ⊥

-- ONE BAD PIXEL CAN'T HIDE, of any two machines that the calls give from the beginning and that are in flyback
abbrev pub OneBadPixel : Type 0
OneBadPixel =
    (calls others : List Asked) (m n : Machine) → m ≡ after_every beginning calls → n ≡ after_every beginning others →
    in_flyback m ≡ true → in_flyback n ≡ true → Told calls others m n
