-- The text of each record of a trace: the tick, a word, and its fields, separated by blanks.
use Rattle.std.specs.Prelude.{ℕ, codes, List, [], ◌∷◌, ◌++◌, Option}
use Rattle.std.specs.Fmt.{decimal}
use Rattle.tora_height.specs.Height.{Quintuple}
use Rattle.tora_height.specs.HeightText.{written_height}
use Rattle.tora_packet.specs.declared.Packet.{Packet}
use Rattle.tora_packet.specs.declared.Packet.TheVariants.{Qry, Upd, Clr}
use Rattle.tora_arq.specs.declared.life.Life.{Life}
use Rattle.tora_core.specs.ShowText.{height_text, hop_text}
use Rattle.tora_script.specs.declared.trace.counts.FrameCounts.{FrameCounts}

abbrev pub line_end : List ℕ
line_end = 10 ∷ []

-- `T need N D`
unfoldable pub need_record : ℕ → ℕ → ℕ → List ℕ
need_record t n d = decimal t ++ codes " need " ++ decimal n ++ codes " " ++ decimal d ++ line_end

-- `T part A B`
unfoldable pub part_record : ℕ → ℕ → ℕ → List ℕ
part_record t a b = decimal t ++ codes " part " ++ decimal a ++ codes " " ++ decimal b ++ line_end

-- `T mend A B`
unfoldable pub mend_record : ℕ → ℕ → ℕ → List ℕ
mend_record t a b = decimal t ++ codes " mend " ++ decimal a ++ codes " " ++ decimal b ++ line_end

-- `T up N K X Y`: the link to k came up at the core of n, in the session that its end writes {X, Y}
unfoldable pub up_record : ℕ → ℕ → ℕ → Life → List ℕ
up_record t n k life = decimal t ++ codes " up " ++ decimal n ++ codes " " ++ decimal k ++ codes " " ++ decimal life.own
    ++ codes " " ++ decimal life.peer ++ line_end

-- `T down N K X Y`
unfoldable pub down_record : ℕ → ℕ → ℕ → Life → List ℕ
down_record t n k life = decimal t ++ codes " down " ++ decimal n ++ codes " " ++ decimal k ++ codes " "
    ++ decimal life.own ++ codes " " ++ decimal life.peer ++ line_end

-- `T qry N D C`, `T upd N D C H` or `T clr N D C TAU OID`: a packet of n for its neighbours, C of which are up
unfoldable pub packet_record : ℕ → ℕ → ℕ → Packet → List ℕ
packet_record t n count (Qry d) = decimal t ++ codes " qry " ++ decimal n ++ codes " " ++ decimal d ++ codes " "
    ++ decimal count ++ line_end
packet_record t n count (Upd u) = decimal t ++ codes " upd " ++ decimal n ++ codes " " ++ decimal u.destination
    ++ codes " " ++ decimal count ++ codes " " ++ written_height u.height ++ line_end
packet_record t n count (Clr c) = decimal t ++ codes " clr " ++ decimal n ++ codes " " ++ decimal c.destination
    ++ codes " " ++ decimal count ++ codes " " ++ decimal c.tau ++ codes " " ++ decimal c.oid ++ line_end

-- `T route N D H K`
unfoldable pub route_record : ℕ → ℕ → ℕ → Option Quintuple → Option ℕ → List ℕ
route_record t n d height hop = decimal t ++ codes " route " ++ decimal n ++ codes " " ++ decimal d ++ codes " "
    ++ height_text height ++ codes " " ++ hop_text hop ++ line_end

-- two counts
abbrev pub counts_text : ℕ → ℕ → List ℕ
counts_text a b = codes " " ++ decimal a ++ codes " " ++ decimal b

-- `T frames H D A L`
unfoldable pub frames_record : ℕ → FrameCounts → List ℕ
frames_record t c =
    decimal t ++ codes " frames" ++ counts_text c.hellos c.datas ++ counts_text c.acks c.losts ++ line_end
