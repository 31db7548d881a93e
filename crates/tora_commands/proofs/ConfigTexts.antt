-- The address in a text is the one that the standard library parses.
use Rattle.std.proofs.Common.{◌≡◌, ◌∙◌, refl, sym, arith, subst, ℕ, List, [], ◌∷◌, length, append-nil, Some, None, Result, Ok, Err, ne_eqb}
use Rattle.std.specs.Result.{result_ok}
use Rattle.std.specs.declared.net.ipv4_addr.Ipv4Addr.{Ipv4Addr}
use Rattle.std.specs.declared.net.socket_addr.SocketAddr.{SocketAddr}
use Rattle.std.specs.declared.net.socket_addr.SocketAddr.TheVariants as Socket
use Rattle.std.specs.declared.net.socket_addr.SocketAddrV4.{SocketAddrV4}
use Rattle.std.specs.declared.net.socket_addr.SocketAddrV6.{SocketAddrV6}
use Rattle.std.specs.Net.Grammar.{Parses, IsSocketText, IsSocketV4Text, IsSocketV6Text}
use Rattle.std.specs.Net.Reader.{Read, read_socket_v4, read_socket_v6, whole_value}
use Rattle.std.specs.Net.Socket.{v4_ip, v4_port}
use Rattle.std.proofs.NetLemmas.Sockets.{read_socket_v4_complete, read_socket_v4_sound, read_socket_v6_complete, read_socket_v6_sound, IsSocketV4Text-not_v6}
use Rattle.tora_commands.specs.ConfigAddresses.{address_in}

abbrev v4_of : List ℕ × ℕ → SocketAddrV4
v4_of parts = record { ip = record { octets = parts.0 }; port = parts.1 }

abbrev v6_of : List ℕ × ℕ × ℕ × ℕ → SocketAddrV6
v6_of parts = record { ip = record { segments = parts.0 }; port = parts.1; flowinfo = parts.2; scope_id = parts.3 }

none_v4 : (text : List ℕ) (o : Read (List ℕ × ℕ)) → read_socket_v4 text ≡ o → ((a : SocketAddrV4) → ¬ (IsSocketV4Text text a)) → whole_value o ≡ None
none_v4 text None e none = refl
none_v4 text (Some (parts, [])) e none =
    let (front, split, spells) = read_socket_v4_sound text [] (v4_of parts) e in
    absurd (none (v4_of parts) (subst (λ (t : List ℕ). IsSocketV4Text t (v4_of parts)) (sym (split ∙ append-nil front)) spells))
none_v4 text (Some (parts, c ∷ rest)) e none = rw (ne_eqb (length (c ∷ rest)) 0 (omega arith)) refl

none_v6 : (text : List ℕ) (o : Read (List ℕ × ℕ × ℕ × ℕ)) → read_socket_v6 text ≡ o → ((a : SocketAddrV6) → ¬ (IsSocketV6Text text a)) → whole_value o ≡ None
none_v6 text None e none = refl
none_v6 text (Some (parts, [])) e none =
    let (front, split, spells) = read_socket_v6_sound text [] (v6_of parts) e in
    absurd (none (v6_of parts) (subst (λ (t : List ℕ). IsSocketV6Text t (v6_of parts)) (sym (split ∙ append-nil front)) spells))
none_v6 text (Some (parts, c ∷ rest)) e none = rw (ne_eqb (length (c ∷ rest)) 0 (omega arith)) refl

pub parsed : {E : Type 0} (text : List ℕ) (r : Result SocketAddr E) → Parses IsSocketText text r → result_ok r ≡ address_in text
unfolding address_in
parsed text (Ok (Socket.V4 a)) spells = rw (read_socket_v4_complete text a spells) refl
parsed text (Ok (Socket.V6 a)) spells =
    rw (none_v4 text (read_socket_v4 text) refl (λ b other. IsSocketV4Text-not_v6 text b a other spells), read_socket_v6_complete text a spells) refl
parsed text (Err e) none =
    rw (none_v4 text (read_socket_v4 text) refl (λ b. none (Socket.V4 b)), none_v6 text (read_socket_v6 text) refl (λ b. none (Socket.V6 b))) refl

pub same_v4 : (a : SocketAddrV4) (ip : Ipv4Addr) (port : ℕ) → v4_ip a ≡ ip → v4_port a ≡ port → a ≡ record { ip = ip; port = port }
same_v4 a ip port e f = λ i. record { ip = e i; port = f i }
