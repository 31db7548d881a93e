-- A channel as a word of the command line.
use Rattle.std.specs.Prelude.{ℕ, zero, suc, ◌+◌, ◌-◌, ◌*◌, ◌==◌, ◌&&◌, ◌||◌, Bool, false, nat_lt, is_some}
use Rattle.std.specs.Prelude.{if◌then◌else◌, codes, List, length, get_or, Option, Some, None, unwrap_or, option_map}
use Rattle.std.specs.Prelude.{bytes_eq}
use Rattle.std.specs.List.{list_all}
use Rattle.std.specs.Char.{is_ascii_digit}
use Rattle.tora_lines.specs.Words.{cut, number_of}
use Rattle.tora_lines.specs.Fronts.{◌>>=◌}
use Rattle.tora_script.specs.declared.channel.channel.TheConstants.{PARTS}
use Rattle.tora_script.specs.declared.channel.channel.Channel.{Channel}
use Rattle.tora_script.specs.declared.channel.parts.Parts.{Parts}

-- the digit at a place; 0 after the last one
abbrev pub digit_at : List ℕ → ℕ → ℕ
digit_at text place = get_or text place 48 - 48

-- one to six digits
abbrev pub is_fraction : List ℕ → Bool
is_fraction text = if (length text == 0) || nat_lt 6 (length text) then false else list_all is_ascii_digit text

-- the digits after the point, in millionths
abbrev pub millionths : List ℕ → ℕ
millionths text = digit_at text 0 * 100000 + digit_at text 1 * 10000 + digit_at text 2 * 1000 + digit_at text 3 * 100 +
    digit_at text 4 * 10 + digit_at text 5

abbrev pub whole_share : ℕ → Option ℕ
whole_share n = if n == 0 then Some 0 else if n == 1 then Some PARTS else None

abbrev pub fraction_from : List ℕ → ℕ → Option ℕ
fraction_from digits whole = if (whole == 0) && is_fraction digits then Some (millionths digits) else None

abbrev pub share_from : List ℕ → Option (List ℕ × List ℕ) → Option ℕ
share_from text None = number_of text >>= whole_share
share_from text (Some halves) = number_of halves.0 >>= fraction_from halves.1

-- `0`, `1`, or `0.` and one to six digits, in millionths
unfoldable pub share_of : List ℕ → Option ℕ
share_of text = share_from text (cut 46 text)

abbrev pub range_of : ℕ → ℕ → Option (ℕ × ℕ)
range_of least most = if nat_lt most least || nat_lt 10000 most then None else Some (least, most)

-- `A-B`, or `D` for `D-D`; A is at most B, and B at most 10,000
unfoldable pub delay_of : List ℕ → Option (ℕ × ℕ)
delay_of text = do
  least ← number_of (unwrap_or (cut 45 text) (text, text)).0
  most ← number_of (unwrap_or (cut 45 text) (text, text)).1
  range_of least most

-- ---- the parts

-- the new value, if there was none before
abbrev pub once : {A : Type 0} → Option A → Option A → Option A
once before now = if is_some before then None else now

-- the parts with one more: `loss=SHARE`, `repeat=SHARE` or `delay=ROUNDS`
abbrev pub with_value : Parts → List ℕ → List ℕ → Option Parts
with_value p name value =
    if bytes_eq name (codes "loss") then option_map (λ n. record p { loss = Some n }) (once p.loss (share_of value))
    else if bytes_eq name (codes "repeat") then option_map (λ n. record p { repeat = Some n })
    (once p.repeat (share_of value))
    else if bytes_eq name (codes "delay") then option_map (λ d. record p { delay = Some d })
    (once p.delay (delay_of value))
    else None

unfoldable pub with_part : Parts → List ℕ → Option Parts
with_part p part = do
  halves ← cut 61 part
  with_value p halves.0 halves.1

-- a part, and after a comma the others, if there are any
abbrev pub parts_or : (Parts → List ℕ → Option Parts) → Parts → List ℕ → Option (List ℕ × List ℕ) → Option Parts
parts_or others p text None = with_part p text
parts_or others p text (Some halves) = with_part p halves.0 >>= λ more. others more halves.1

-- the parts between commas, at least one and at most a number of them
unfoldable pub parts_from : ℕ → Parts → List ℕ → Option Parts
parts_from zero p text = with_part p text
parts_from (suc k) p text = parts_or (parts_from k) p text (cut 44 text)

abbrev pub no_parts : Parts
no_parts = record { loss = None; repeat = None; delay = None }

-- `loss=SHARE,repeat=SHARE,delay=ROUNDS`, each once at most and in any order
abbrev pub parts_of : List ℕ → Option Parts
parts_of text = parts_from 2 no_parts text

-- the channel of these parts; a missing part is 0
abbrev pub channel_by : Parts → ℕ → Channel
channel_by p seed = record {
  seed = seed;
  loss = unwrap_or p.loss 0;
  repeat = unwrap_or p.repeat 0;
  least = (unwrap_or p.delay (0, 0)).0;
  most = (unwrap_or p.delay (0, 0)).1;
}
