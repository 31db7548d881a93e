-- The addresses of a link in a value.
use Rattle.std.specs.Prelude.{ℕ, Bool, List, [], ◌∷◌, ◌==◌, nat_lt, bytes_eq, slice_index, if◌then◌else◌, Option, Some}
use Rattle.std.specs.Prelude.{None, option_map, Result, Ok, Err}
use Rattle.std.specs.Option.{option_or}
use Rattle.std.specs.declared.net.ip_addr.IpAddr.{IpAddr}
use Rattle.std.specs.declared.net.ip_addr.IpAddr.TheVariants as Ip
use Rattle.std.specs.declared.net.socket_addr.SocketAddr.{SocketAddr}
use Rattle.std.specs.declared.net.socket_addr.SocketAddr.TheVariants as Socket
use Rattle.std.specs.Net.Addr.{ipv4_octets, ipv6_segments}
use Rattle.std.specs.Net.Reader.{read_socket_v4, read_socket_v6, whole_value}
use Rattle.std.specs.Net.Socket.{socket_ip, socket_port}
use Rattle.toml.specs.Data.{Data, as_integer, as_str}
use Rattle.tora_commands.specs.declared.configuration.reason.Reason.{Reason}
use Rattle.tora_commands.specs.declared.configuration.reason.Reason.TheVariants as Is
use Rattle.tora_commands.specs.ConfigNumbers.{port_in}

-- an address of IPv4 from its octets and its port, and one of IPv6 from its segments, its port and its scope
abbrev pub v4_address : List ℕ × ℕ → SocketAddr
v4_address parts = Socket.V4 (record { ip = record { octets = parts.0 }; port = parts.1 })

abbrev pub v6_address : List ℕ × ℕ × ℕ × ℕ → SocketAddr
v6_address parts =
    Socket.V6 (record { ip = record { segments = parts.0 }; port = parts.1; flowinfo = parts.2; scope_id = parts.3 })

-- the address in a text, as std reads it (`10.0.0.1:7001`, `[::1]:7001`)
unfoldable pub address_in : List ℕ → Option SocketAddr
address_in text = option_or (option_map v4_address (whole_value (read_socket_v4 text)))
    (option_map v6_address (whole_value (read_socket_v6 text)))

-- a port of the loopback of IPv4, 127.0.0.1
abbrev pub on_loopback : ℕ → SocketAddr
on_loopback port = v4_address (127 ∷ 0 ∷ 0 ∷ 1 ∷ [], port)

-- an address has a port other than 0; any other text is the fault `NoNumber`
abbrev pub written : Option SocketAddr → Result SocketAddr Reason
written None = Err Is.NoNumber
written (Some address) = if nat_lt 0 (socket_port address) then Ok address else Err Is.NoNumber

abbrev pub numbered : Result ℕ Reason → Result SocketAddr Reason
numbered (Ok port) = Ok (on_loopback port)
numbered (Err reason) = Err reason

abbrev pub end_by : Option (List ℕ) → Data → Result SocketAddr Reason
end_by (Some text) value = written (address_in text)
end_by None value = numbered (port_in (as_integer value))

-- an address of a link: a text is an address, and a number is a port of the loopback
unfoldable pub end_in : Data → Result SocketAddr Reason
end_in value = end_by (as_str value) value

abbrev pub port_of_end : Result SocketAddr Reason → Result ℕ Reason
port_of_end (Ok address) = Ok (socket_port address)
port_of_end (Err reason) = Err reason

-- 127.0.0.0/8, and ::1
abbrev pub is_loopback_ip : IpAddr → Bool
is_loopback_ip (Ip.V4 ip) = slice_index (ipv4_octets ip) 0 == 127
is_loopback_ip (Ip.V6 ip) = bytes_eq (ipv6_segments ip) (0 ∷ 0 ∷ 0 ∷ 0 ∷ 0 ∷ 0 ∷ 0 ∷ 1 ∷ [])

abbrev pub is_loopback : SocketAddr → Bool
is_loopback address = is_loopback_ip (socket_ip address)
